-- An accepted edit leaves rows that a plan may hold.
use Rattle.std.proofs.Common.{◌≡◌, ℕ, ◌+◌, ◌<◌, ◌≤◌, true, false, ltb, leb, ◌≢◌, List, [], ◌∷◌, length, get_or, set, is_some, Some, None, Ok, Option, sym, refl, ◌∙◌, inl, inr, arith}
use Rattle.std.proofs.lemmas.List.{get_or_append_left, get_or_push, get_or-set_same, get_or-set_other, length_push, length-set}
use Rattle.std.proofs.lemmas.Bool.{true≢false, leb-false, lt-ltb, and_from, cases_eq, cases_lt, cases_order}
use Rattle.std.proofs.lemmas.Bool.Decides.{nat_tests}
use Rattle.tasks.specs.declared.task.Row.{Row}
use Rattle.tasks.specs.Refusals.{refusal}
use Rattle.tasks.specs.Rows.{no_row, bounded}
use Rattle.tasks.proofs.Verdicts.{past, through, accepted_is_bounded}
use Rattle.rules.specs.Rules.{place_of, known, clash, clashes, add_verdict, change_verdict, with_row, is_task_of, apart, EachATask, AllApart}
use Rattle.rules.proofs.Found.{place_absent, clash_absent}

-- two rows that do not clash, with two ids, go together, whichever stands first
apart_after : (old new : Row) → clash new old ≡ false → (old.id ≡ new.id → ⊥) → apart old new ≡ true
apart_after old new c n = grind (arith, nat_tests)

apart_before : (old new : Row) → clash new old ≡ false → (old.id ≡ new.id → ⊥) → apart new old ≡ true
apart_before old new c n = grind (arith, nat_tests)

none_of : (o : Option ℕ) → is_some o ≡ false → o ≡ None
none_of None h = refl
none_of (Some i) h = absurd (true≢false h)

unknown : (id : ℕ) (rows : List Row) → known id rows ≡ false → place_of id rows ≡ None
unknown id rows h = none_of (place_of id rows) h

-- what an accepted add says
pub record Addable (cores : ℕ) (rows : List Row) (row : Row) : Type 0 where
  pub on_a_core : ltb row.core cores ≡ true
  pub absent : place_of row.id rows ≡ None
  pub room : length rows < 64
  pub alone : clashes row rows ≡ false
  pub sound : bounded row ≡ true

pub addable : (cores : ℕ) (rows : List Row) (row : Row) → add_verdict cores rows row ≡ Ok tt → Addable cores rows row
addable cores rows row h =
    let core = past (leb cores row.core) (refusal 6) _ h in
    let new = past (known row.id rows) (refusal 7) _ core.1 in
    let few = past (leb 64 (length rows)) (refusal 9) _ new.1 in
    let rank = past (clashes row rows) (refusal 10) _ few.1 in
    record {
      on_a_core = lt-ltb row.core cores (leb-false cores row.core core.0);
      absent = unknown row.id rows new.0;
      room = leb-false 64 (length rows) few.0;
      alone = rank.0;
      sound = accepted_is_bounded row rank.1;
    }

-- what an accepted change says, of the task's place
pub record Changeable (cores : ℕ) (rows : List Row) (row : Row) : Type 0 where
  pub on_a_core : ltb row.core cores ≡ true
  pub alone : clashes row rows ≡ false
  pub sound : bounded row ≡ true

pub changeable : (cores : ℕ) (rows : List Row) (row : Row) → change_verdict cores rows row ≡ Ok tt → Changeable cores rows row
changeable cores rows row h =
    let core = past (leb cores row.core) (refusal 6) _ h in
    let known = through (known row.id rows) (refusal 8) _ core.1 in
    let rank = past (clashes row rows) (refusal 10) _ known.1 in
    record {
      on_a_core = lt-ltb row.core cores (leb-false cores row.core core.0);
      alone = rank.0;
      sound = accepted_is_bounded row rank.1;
    }

both : (row : Row) (cores : ℕ) → ltb row.core cores ≡ true → bounded row ≡ true → is_task_of cores row ≡ true
both row cores on ok = and_from (ltb row.core cores) (bounded row) on ok

pub added_each : (cores : ℕ) (rows : List Row) (row : Row) → EachATask cores rows → Addable cores rows row → EachATask cores (with_row rows row)
added_each cores rows row each ok u h = elim (cases_lt u (length rows)) [
  | inl old ↦ rw (get_or_append_left rows (row ∷ []) no_row u old) (each u old)
  | inr new ↦ (let is : length rows ≡ u = omega (arith, length_push rows row) in
      rw (get_or_push rows row no_row u is) (both row cores ok.on_a_core ok.sound))
]

pub added_apart : (cores : ℕ) (rows : List Row) (row : Row) → AllApart rows → Addable cores rows row → AllApart (with_row rows row)
added_apart cores rows row all ok u v h =
    let first : u < length rows = omega (arith, length_push rows row, h.0, h.1) in
    elim (cases_lt v (length rows)) [
      | inl old ↦ rw (get_or_append_left rows (row ∷ []) no_row u first) (rw (get_or_append_left rows (row ∷ []) no_row v old) (all u v (h.0, old)))
      | inr new ↦ (let is : length rows ≡ v = omega (arith, length_push rows row, h.1) in
          rw (get_or_append_left rows (row ∷ []) no_row u first) (rw (get_or_push rows row no_row v is)
          (apart_after (get_or rows u no_row) row (clash_absent rows row ok.alone u first) (place_absent rows row.id ok.absent u first))))
    ]

-- the rows after a removal at i are those before it and, one place up, those after it
module _ (rows later : List Row) (i : ℕ)
    (stays : (k : ℕ) (d : Row) → k < i → get_or later k d ≡ get_or rows k d)
    (moves : (k : ℕ) (d : Row) → i ≤ k → get_or later k d ≡ get_or rows (k + 1) d)
    (one : length later + 1 ≡ length rows) where
  pub removed_each : (cores : ℕ) → EachATask cores rows → EachATask cores later
  removed_each cores each u h = elim (cases_lt u i) [
    | inl before ↦ rw (stays u no_row before) (each u (omega arith))
    | inr after ↦ rw (moves u no_row after) (each (u + 1) (omega arith))
  ]

  pub removed_apart : AllApart rows → AllApart later
  removed_apart all u v h = elim (cases_lt u i) [
    | inl early ↦ rw (stays u no_row early) (elim (cases_lt v i) [
      | inl before ↦ rw (stays v no_row before) (all u v (h.0, omega (arith, h.1)))
      | inr after ↦ rw (moves v no_row after) (all u (v + 1) (omega (arith, h.0), omega (arith, h.1)))
    ])
    | inr late ↦ (let after : i ≤ v = omega (arith, h.0) in
        rw (moves u no_row late) (rw (moves v no_row after) (all (u + 1) (v + 1) (omega (arith, h.0), omega (arith, h.1)))))
  ]

here_is : (rows : List Row) (i : ℕ) (row : Row) (u : ℕ) → u ≡ i → u < length rows → get_or (set rows i row) u no_row ≡ row
here_is rows i row u here h = let inside : i < length rows = omega arith in rw here (get_or-set_same rows i row no_row inside)

pub changed_each : (cores : ℕ) (rows : List Row) (i : ℕ) (row : Row) → EachATask cores rows → Changeable cores rows row → EachATask cores (set rows i row)
changed_each cores rows i row each ok u h =
    let inside : u < length rows = omega (arith, length-set rows i row) in
    elim (cases_eq u i) [
      | inl here ↦ rw (here_is rows i row u here inside) (both row cores ok.on_a_core ok.sound)
      | inr other ↦ rw (get_or-set_other rows i u row no_row other) (each u inside)
    ]

ids_differ : (one other : Row) → apart one other ≡ true → one.id ≡ other.id → ⊥
ids_differ one other p q = grind (arith, nat_tests)

-- a row other than the changed one has another id than it
other_id : (rows : List Row) (i : ℕ) (row : Row) → AllApart rows → i < length rows → (get_or rows i no_row).id ≡ row.id
    → (u : ℕ) → u < length rows → (u ≡ i → ⊥) → (get_or rows u no_row).id ≡ row.id → ⊥
other_id rows i row all h is u inside other same = elim (cases_order u i) [
  | inl e ↦ other e
  | inr (inl before) ↦ (let p = all u i (before, h) in let q : (get_or rows u no_row).id ≡ (get_or rows i no_row).id = same ∙ sym is in ids_differ (get_or rows u no_row) (get_or rows i no_row) p q)
  | inr (inr after) ↦ (let p = all i u (after, inside) in let q : (get_or rows i no_row).id ≡ (get_or rows u no_row).id = is ∙ sym same in ids_differ (get_or rows i no_row) (get_or rows u no_row) p q)
]

pub changed_apart : (cores : ℕ) (rows : List Row) (i : ℕ) (row : Row) → AllApart rows → Changeable cores rows row
    → i < length rows → (get_or rows i no_row).id ≡ row.id → AllApart (set rows i row)
changed_apart cores rows i row all ok at is u v h =
    let late : v < length rows = omega (arith, length-set rows i row, h.1) in
    let early : u < length rows = omega (arith, h.0) in
    let clear = clash_absent rows row ok.alone in
    elim (cases_eq u i) [
      | inl here ↦ (let other : v ≢ i = omega (arith, h.0) in
          rw (here_is rows i row u here early) (rw (get_or-set_other rows i v row no_row other)
          (apart_before (get_or rows v no_row) row (clear v late) (other_id rows i row all at is v late other))))
      | inr other ↦ elim (cases_eq v i) [
        | inl here ↦ rw (here_is rows i row v here late) (rw (get_or-set_other rows i u row no_row other)
            (apart_after (get_or rows u no_row) row (clear u early) (other_id rows i row all at is u early other)))
        | inr beside ↦ rw (get_or-set_other rows i u row no_row other) (rw (get_or-set_other rows i v row no_row beside) (all u v (h.0, late)))
      ]
    ]
