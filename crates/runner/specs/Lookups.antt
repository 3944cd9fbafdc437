-- A script by ids, looked up in the rows of a plan, and its first faulty row. Assumes nothing.
use Rattle.std.specs.Prelude.{◌≡◌, ℕ, ◌+◌, ◌^◌, ◌<◌, ◌≤◌, ◌⊎◌, List, map, length, Some, None, Option, slice_index_or}
use Rattle.tasks.specs.declared.task.Row.{Row}
use Rattle.tasks.specs.Rows.{no_row}
use Rattle.rules.specs.Rules.{place_of}
use Rattle.argument.specs.Plans.{plan_of}
use Rattle.bridge.specs.Scripts.{Script, LawfulRow}
use Rattle.runs.specs.declared.rows.Job.{Job}
use Rattle.runs.specs.declared.rows.ScriptRow.{ScriptRow}
use Rattle.runs.specs.Rows.{job_on}
use Rattle.runs.specs.Shown.{no_job, script_of}

abbrev pub no_script : ScriptRow
no_script = record { id = 0; release = 0; a = 0; e = 0; r = 0 }

-- a place, or one past the end
abbrev pub placed : ℕ → Option ℕ → ℕ
placed past None = past
placed past (Some place) = place

abbrev pub task_of : List Row → ScriptRow → ℕ
task_of rows row = placed (length rows) (place_of row.id rows)

-- its job, looked up by id
abbrev pub job_for : List Row → ScriptRow → Job
job_for rows row = job_on (task_of rows row) (slice_index_or rows (task_of rows row) no_row) row

abbrev pub jobs_for : List Row → List ScriptRow → List Job
jobs_for rows script = map (job_for rows) script

-- the script by places
abbrev pub script_for : List Row → List ScriptRow → Script
script_for rows script = script_of (jobs_for rows script)

-- the row k is the first that is faulty: a row 1,024 is, and any row that is not lawful after those before it
pub record FirstFault (rows : List Row) (script : List ScriptRow) (k : ℕ) : Type 0 where
  pub there : k < length script
  pub before : (j : ℕ) → j < k → (j < 1024) × LawfulRow (plan_of 0 rows) (script_for rows script) j
  pub faulty : (1024 ≤ k) ⊎ (LawfulRow (plan_of 0 rows) (script_for rows script) k → ⊥)

-- ---- what is asked of one row

-- by itself, of its task
pub record Possible (task : Row) (row : ScriptRow) : Type 0 where
  pub early : row.release ≤ 2 ^ 40
  pub some_a : 1 ≤ row.a
  pub most_a : row.a ≤ task.a
  pub some_e : 1 ≤ row.e
  pub most_e : row.e ≤ task.e
  pub some_r : 1 ≤ row.r
  pub most_r : row.r ≤ task.r

-- after an earlier job
pub record Apart (earlier : Job) (task spacing release : ℕ) : Type 0 where
  pub rising : earlier.release ≤ release
  pub spaced : earlier.task ≡ task → earlier.release + spacing ≤ release

abbrev pub AllApart : List Job → ℕ → ℕ → ℕ → Type 0
AllApart jobs task spacing release = (j : ℕ) → j < length jobs → Apart (slice_index_or jobs j no_job) task spacing release

-- a row is admitted after the jobs before it: its task is at a place, and it is one of the first 1,024
pub record Admitted (rows : List Row) (row : ScriptRow) (earlier : List Job) (place : ℕ) : Type 0 where
  pub few : length earlier < 1024
  pub known : place_of row.id rows ≡ Some place
  pub possible : Possible (slice_index_or rows place no_row) row
  pub apart : AllApart earlier place (slice_index_or rows place no_row).spacing row.release
