-- When an edit of a plan is accepted, read on the plan's cores and rows and the arguments of the call, and the rows after it. Assumes nothing.
use Rattle.std.specs.Prelude.{◌≡◌, ℕ, ◌<◌, Bool, true, cond, not, ◌&&◌, List, [], ◌∷◌, ◌++◌, length, is_some, Some, None, Ok, Err, Option, Result, ◌==◌, nat_le, nat_lt, slice_index_or, slice_set}
use Rattle.std.specs.List.{remove, position, list_any}
use Rattle.tasks.specs.declared.refusal.Refusal.{Refusal}
use Rattle.tasks.specs.declared.task.Row.{Row}
use Rattle.tasks.specs.Platforms.{line_verdict, cores_verdict}
use Rattle.tasks.specs.Refusals.{Told, refusal}
use Rattle.tasks.specs.Rows.{no_row, row_verdict, bounded}

-- the place of the row with this id
abbrev pub place_of : ℕ → List Row → Option ℕ
place_of id rows = position (λ row. row.id == id) rows

-- a task with this id is in the plan
abbrev pub known : ℕ → List Row → Bool
known id rows = is_some (place_of id rows)

-- the old row is another task of the new row's core, and has its rank
abbrev pub clash : Row → Row → Bool
clash new old = old.core == new.core && old.rank == new.rank && not (old.id == new.id)

abbrev pub clashes : Row → List Row → Bool
clashes new rows = list_any (clash new) rows

-- the plain numbers that open is given
abbrev pub open_verdict : ℕ → ℕ → List ℕ → Result (Unit {0}) Told
open_verdict cores bottom favours = first (line_verdict bottom favours) (cores_verdict cores favours)
  where
    first : Result (Unit {0}) Told → Result (Unit {0}) Told → Result (Unit {0}) Told
    first (Ok x) next = next
    first (Err e) next = Err e

abbrev pub add_verdict : ℕ → List Row → Row → Result (Unit {0}) Told
add_verdict cores rows row =
    cond (nat_le cores row.core) (Err (refusal 6))
    (cond (known row.id rows) (Err (refusal 7))
    (cond (nat_le 64 (length rows)) (Err (refusal 9))
    (cond (clashes row rows) (Err (refusal 10))
    (row_verdict row))))

abbrev pub remove_verdict : List Row → ℕ → Result (Unit {0}) Told
remove_verdict rows id = cond (known id rows) (Ok tt) (Err (refusal 8))

-- a task does not clash with its own rank
abbrev pub change_verdict : ℕ → List Row → Row → Result (Unit {0}) Told
change_verdict cores rows row =
    cond (nat_le cores row.core) (Err (refusal 6))
    (cond (known row.id rows)
    (cond (clashes row rows) (Err (refusal 10)) (row_verdict row))
    (Err (refusal 8)))

-- a new task stands last
abbrev pub with_row : List Row → Row → List Row
with_row rows row = rows ++ (row ∷ [])

-- the gap that a task leaves is closed
abbrev pub without_place : List Row → Option ℕ → List Row
without_place rows None = rows
without_place rows (Some i) = remove rows i

abbrev pub without : List Row → ℕ → List Row
without rows id = without_place rows (place_of id rows)

-- a changed task stays at its place
abbrev pub replaced_at : List Row → Row → Option ℕ → List Row
replaced_at rows row None = rows
replaced_at rows row (Some i) = slice_set rows i row

abbrev pub replaced : List Row → Row → List Row
replaced rows row = replaced_at rows row (place_of row.id rows)

-- an accepted edit puts new rows in place of the old; a refused one changes nothing
abbrev pub after : {X : Type 0} → Result X Refusal → List Row → List Row → List Row
after (Ok x) old new = new
after (Err e) old new = old

-- a row that holds a task of one of the cores
abbrev pub is_task_of : ℕ → Row → Bool
is_task_of cores row = nat_lt row.core cores && bounded row

-- two tasks that a plan may hold together: they have two ids, and on one core two ranks
abbrev pub apart : Row → Row → Bool
apart one other = not (one.id == other.id) && not (one.core == other.core && one.rank == other.rank)

-- What holds of the rows of every plan: each holds a task of one of its cores,
abbrev pub EachATask : ℕ → List Row → Type 0
EachATask cores rows = (u : ℕ) → u < length rows → is_task_of cores (slice_index_or rows u no_row) ≡ true

-- and any two go together.
abbrev pub AllApart : List Row → Type 0
AllApart rows = (u v : ℕ) → (u < v) × (v < length rows) → apart (slice_index_or rows u no_row) (slice_index_or rows v no_row) ≡ true
