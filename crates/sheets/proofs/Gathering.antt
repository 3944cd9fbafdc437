-- One record more of a sheet, and the rows that it brings.
use Rattle.std.proofs.Common.{◌≡◌, ℕ, zero, suc, ◌+◌, ◌-◌, ◌<◌, ◌≤◌, leb, List, length, Some, None, Ok, Err, Option, Result, sym, refl, ap, ◌∙◌, inl, inr, arith}
use Rattle.std.proofs.lemmas.Bool.{cases_Bool, leb-false}
use Rattle.tasks.specs.declared.task.Row.{Row}
use Rattle.rules.specs.Rules.{add_verdict, with_row}
use Rattle.sheets.specs.declared.placed.Placed.{Placed}
use Rattle.sheets.specs.Records.{Part, Spot, record_at, place_after}
use Rattle.sheets.specs.Spelled.{Mistake, task_record, grown, rows_from}

-- with one more record looked at
pub one_more : (more cores : ℕ) (sheet : List ℕ) (p : ℕ) (rows : List Row) → 0 < more
    → rows_from more cores sheet p rows ≡ grown cores rows (task_record (record_at sheet p)) (rows_from (more - 1) cores sheet (place_after (record_at sheet p) p))
unfolding rows_from
one_more zero cores sheet p rows some = absurd (omega arith)
one_more (suc more) cores sheet p rows some = let one : suc more - 1 ≡ more = omega arith in rw one refl

-- a record takes the reader on
past_it : (x : Result (Option Part) Spot) (p : ℕ) (placed : Placed Row) → task_record x ≡ Ok (Some placed) → p + 3 ≤ place_after x p
past_it (Ok None) p placed e = absurd cc
past_it (Ok (Some part)) p placed e = omega arith
past_it (Err spot) p placed e = absurd cc

pub goes_further : (sheet : List ℕ) (p : ℕ) (placed : Placed Row) → task_record (record_at sheet p) ≡ Ok (Some placed)
    → (p < length sheet) × (p + 3 ≤ place_after (record_at sheet p) p)
goes_further sheet p placed e = elim (cases_Bool (leb (length sheet) p)) [
  | inl past ↦ absurd (let none : record_at sheet p ≡ Ok None = rw past refl in
      let same : task_record (record_at sheet p) ≡ Ok None = ap task_record none in
      cc)
  | inr inside ↦ (leb-false (length sheet) p inside, past_it (record_at sheet p) p placed e)
]

pub admitted : (cores : ℕ) (rows later : List Row) (x : Result (Option (Placed Row)) Spot) (placed : Placed Row) (rest : List Row → Result (List Row) Mistake)
    → x ≡ Ok (Some placed) → add_verdict cores rows placed.what ≡ Ok tt → later ≡ with_row rows placed.what → grown cores rows x rest ≡ rest later
admitted cores rows later x placed rest e ok added = rw (e, ok) (ap rest (sym added))

-- the rows from a place on, after those that are there, come to all of them; the number of records that are looked at suffices
pub record GoesOn (cores : ℕ) (sheet : List ℕ) (p : ℕ) (rows : List Row) (all : Result (List Row) Mistake) : Type 0 where
  pub more : ℕ
  pub enough : length sheet - p < more
  pub is : rows_from more cores sheet p rows ≡ all

module _ {cores : ℕ} {sheet : List ℕ} {p : ℕ} {rows : List Row} {all : Result (List Row) Mistake} (on : GoesOn cores sheet p rows all) where
  -- what the record at the place comes to is what all of them come to
  pub comes_to : {x : Result (Option (Placed Row)) Spot} → x ≡ task_record (record_at sheet p) → grown cores rows x (rows_from (on.more - 1) cores sheet (place_after (record_at sheet p) p)) ≡ all
  comes_to found =
      ap (λ y. grown cores rows y (rows_from (on.more - 1) cores sheet (place_after (record_at sheet p) p))) found
      ∙ sym (one_more on.more cores sheet p rows (omega (arith, on.enough)))
      ∙ on.is

  -- one record more is looked at, and the row that it brings is there
  pub after_a_task : {placed : Placed Row} → Ok (Some placed) ≡ task_record (record_at sheet p) → add_verdict cores rows placed.what ≡ Ok tt
      → GoesOn cores sheet (place_after (record_at sheet p) p) (with_row rows placed.what) all
  after_a_task {placed} found ok =
      let further = goes_further sheet p placed (sym found) in
      record { more = on.more - 1; enough = omega (arith, on.enough, further.0, further.1); is = rw ok at (comes_to found) }
