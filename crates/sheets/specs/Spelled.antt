-- The plan that a sheet spells, or the fault with its number, its layer and its place. Assumes nothing.
use Rattle.std.specs.Prelude.{ℕ, zero, suc, List, [], ◌++◌, length, codes, decimal, Some, None, Ok, Err, Option, Result}
use Rattle.tasks.specs.declared.task.Row.{Row}
use Rattle.tasks.specs.Platforms.{cores_verdict}
use Rattle.tasks.specs.Refusals.{Told, numbered, no_memory}
use Rattle.rules.specs.Rules.{add_verdict, with_row}
use Rattle.sheets.specs.declared.placed.Placed.{Placed}
use Rattle.sheets.specs.declared.plan.Layer.{Layer}
use Rattle.sheets.specs.declared.plan.Layer.TheVariants.{Sheet, Plan}
use Rattle.sheets.specs.Records.{Part, Spot, at, record_at, place_after, start_of}
use Rattle.sheets.specs.Entries.{Held, platform, task, held_in}

-- ---- the records in order

-- the platform at the head of a sheet
pub record Head : Type 0 where
  pub place : ℕ
  pub cores : ℕ
  pub bottom : ℕ
  pub favours : List ℕ

abbrev pub head_held : ℕ → Result Held Told → Result Head Spot
head_held p (Ok (platform cores bottom favours)) = Ok (record { place = p; cores = cores; bottom = bottom; favours = favours })
head_held p (Ok (task row)) = Err (at 4 p)
head_held p (Err told) = Err (record { told = told; place = p })

-- the first record is a platform; a sheet without a record is short of it
abbrev pub head_in : ℕ → Result (Option Part) Spot → Result Head Spot
head_in p (Ok None) = Err (at 1 p)
head_in p (Ok (Some part)) = head_held part.place (held_in part)
head_in p (Err spot) = Err spot

-- a task is told with the place of its record
abbrev pub task_held : ℕ → Result Held Told → Result (Option (Placed Row)) Spot
task_held p (Ok (platform cores bottom favours)) = Err (at 4 p)
task_held p (Ok (task row)) = Ok (Some (record { place = p; what = row }))
task_held p (Err told) = Err (record { told = told; place = p })

-- every later record is a task
abbrev pub task_record : Result (Option Part) Spot → Result (Option (Placed Row)) Spot
task_record (Ok None) = Ok None
task_record (Ok (Some part)) = task_held part.place (held_in part)
task_record (Err spot) = Err spot

-- ---- the plan

-- a fault: its number, the layer that found it, and the place of the faulty record
pub record Mistake : Type 0 where
  pub told : Told
  pub layer : Layer
  pub place : ℕ

abbrev pub sheet_fault : Spot → Mistake
sheet_fault spot = record { told = spot.told; layer = Sheet; place = spot.place }

abbrev pub plan_fault : Told → ℕ → Mistake
plan_fault told p = record { told = told; layer = Plan; place = p }

-- how it is printed
abbrev pub mistake_text : Mistake → List ℕ
mistake_text mistake = text mistake.told mistake.place
  where
    text : Told → ℕ → List ℕ
    text (numbered n values) place = codes "refused " ++ (decimal n ++ (codes " at " ++ decimal place))
    text no_memory place = codes "no memory"

-- what comes of one more task record: it is judged as an add to those before it, and the rest goes on with it
abbrev pub judged : Result (Unit {0}) Told → ℕ → Result (List Row) Mistake → Result (List Row) Mistake
judged (Ok x) p rest = rest
judged (Err told) p rest = Err (plan_fault told p)

abbrev pub grown : ℕ → List Row → Result (Option (Placed Row)) Spot → (List Row → Result (List Row) Mistake) → Result (List Row) Mistake
grown cores rows (Ok None) rest = Ok rows
grown cores rows (Ok (Some placed)) rest = judged (add_verdict cores rows placed.what) placed.place (rest (with_row rows placed.what))
grown cores rows (Err spot) rest = Err (sheet_fault spot)

-- the rows of the records from a place on, after those that are there; the first number bounds how many records are looked at
unfoldable pub rows_from : ℕ → ℕ → List ℕ → ℕ → List Row → Result (List Row) Mistake
rows_from zero cores sheet p rows = Ok rows
rows_from (suc more) cores sheet p rows =
    grown cores rows (task_record (record_at sheet p)) (rows_from more cores sheet (place_after (record_at sheet p) p))

-- a plan: cores, bus line and rows
pub record Spelling : Type 0 where
  pub cores : ℕ
  pub bottom : ℕ
  pub favours : List ℕ
  pub rows : List Row

abbrev pub with_rows : Head → Result (List Row) Mistake → Result Spelling Mistake
with_rows head (Ok rows) = Ok (record { cores = head.cores; bottom = head.bottom; favours = head.favours; rows = rows })
with_rows head (Err mistake) = Err mistake

-- the plan judges the platform's cores, then the tasks; a record has 3 bytes at least, so the sheet's length bounds their number
abbrev pub planned_by : Head → Result (Unit {0}) Told → List ℕ → ℕ → Result Spelling Mistake
planned_by head (Ok x) sheet p = with_rows head (rows_from (suc (length sheet)) head.cores sheet p [])
planned_by head (Err told) sheet p = Err (plan_fault told head.place)

abbrev pub headed : Result Head Spot → List ℕ → ℕ → Result Spelling Mistake
headed (Ok head) sheet p = planned_by head (cores_verdict head.cores head.favours) sheet p
headed (Err spot) sheet p = Err (sheet_fault spot)

abbrev pub started : Result ℕ Spot → List ℕ → Result Spelling Mistake
started (Ok p) sheet = headed (head_in p (record_at sheet p)) sheet (place_after (record_at sheet p) p)
started (Err spot) sheet = Err (sheet_fault spot)

abbrev pub spelled : List ℕ → Result Spelling Mistake
spelled sheet = started (start_of sheet) sheet
