-- What the answer of a search through rows says of every row.
use Rattle.std.specs.List.{position_or_len}
use Rattle.std.proofs.Common.{◌≡◌, ℕ, zero, suc, ◌<◌, Bool, Option, false, cond, eqb, ltb, List, [], ◌∷◌, length, get_or, Some, None, sym, refl, ◌∙◌, inl, inr, arith}
use Rattle.std.proofs.lemmas.Bool.{cases_lt, eqb-true, eqb-false, lt-ltb, le-ltb, or_parts, or_from}
use Rattle.std.proofs.lemmas.List.Sums.{passes_at_first, fails_before_first}
use Rattle.tasks.specs.declared.task.Row.{Row}
use Rattle.tasks.specs.Rows.{no_row}
use Rattle.rules.specs.Rules.{place_of, clash, clashes}

abbrev has_id : ℕ → Row → Bool
has_id id row = eqb row.id id

pub place_found : (rows : List Row) (id j : ℕ) → place_of id rows ≡ Some j → (j < length rows) × ((get_or rows j no_row).id ≡ id)
place_found rows id j e =
    let first = position_or_len (has_id id) rows in
    elim (cases_lt first (length rows)) [
      | inl inside ↦ (let some : cond (ltb first (length rows)) (Some first) None ≡ Some first = rw (lt-ltb first (length rows) inside) refl in
          let is : first ≡ j = (let both : ◌≡◌ {A = Option ℕ} (Some first) (Some j) = sym some ∙ e in cc) in
          let here = passes_at_first (has_id id) rows no_row inside in
          (omega arith, rw is at (eqb-true (get_or rows first no_row).id id here)))
      | inr past ↦ absurd (let none : cond (ltb first (length rows)) (Some first) None ≡ None = rw (le-ltb first (length rows) past) refl in
          let z : ◌≡◌ {A = ℕ} 0 1 = cc in omega arith)
    ]

pub place_absent : (rows : List Row) (id : ℕ) → place_of id rows ≡ None → (u : ℕ) → u < length rows → (get_or rows u no_row).id ≡ id → ⊥
place_absent rows id e u h same =
    let first = position_or_len (has_id id) rows in
    elim (cases_lt first (length rows)) [
      | inl inside ↦ (let some : cond (ltb first (length rows)) (Some first) None ≡ Some first = rw (lt-ltb first (length rows) inside) refl in
          let z : ◌≡◌ {A = ℕ} 0 1 = cc in omega arith)
      | inr past ↦ eqb-false (get_or rows u no_row).id id (fails_before_first (has_id id) rows u no_row (omega arith)) same
    ]

pub place_none : (rows : List Row) (id : ℕ) → ((u : ℕ) → u < length rows → (get_or rows u no_row).id ≡ id → ⊥) → place_of id rows ≡ None
place_none rows id none =
    let first = position_or_len (has_id id) rows in
    elim (cases_lt first (length rows)) [
      | inl inside ↦ absurd (none first inside (eqb-true (get_or rows first no_row).id id (passes_at_first (has_id id) rows no_row inside)))
      | inr past ↦ rw (le-ltb first (length rows) past) refl
    ]

pub clash_absent : (rows : List Row) (new : Row) → clashes new rows ≡ false → (u : ℕ) → u < length rows → clash new (get_or rows u no_row) ≡ false
clash_absent [] new e u h = absurd (omega arith)
clash_absent (row ∷ rows) new e zero h = (or_parts (clash new row) (clashes new rows) e).0
clash_absent (row ∷ rows) new e (suc u) h = clash_absent rows new (or_parts (clash new row) (clashes new rows) e).1 u (omega arith)

pub clash_none : (rows : List Row) (new : Row) → ((u : ℕ) → u < length rows → clash new (get_or rows u no_row) ≡ false) → clashes new rows ≡ false
clash_none [] new none = refl
clash_none (row ∷ rows) new none = or_from (clash new row) (clashes new rows) (none 0 (omega arith)) (clash_none rows new (λ u h. none (suc u) (omega arith)))
