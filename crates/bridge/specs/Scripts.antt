-- A script: which jobs are released when, and how long their phases take. Assumes nothing.
use Rattle.std.specs.Prelude.{◌≡◌, ℕ, ◌+◌, ◌^◌, ◌<◌, ◌≤◌}
use Rattle.tasks.specs.declared.task.Row.{Row}
use Rattle.argument.specs.Plans.{Plan}

-- one job that a script releases
pub record Release : Type 0 where
  -- the place of its task
  pub task : ℕ
  -- the moment at which it is released
  pub release : ℕ
  -- how many ticks its phases take: A, E and R
  pub a : ℕ
  pub e : ℕ
  pub r : ℕ

pub record Script : Type 0 where
  -- the jobs are the numbers below this one
  pub size : ℕ
  -- what the script says of a job
  pub row : ℕ → Release

-- the row of the job's task, and its core
abbrev pub task_at : Plan → Script → ℕ → Row
task_at plan script k = plan.row (script.row k).task

abbrev pub core_at : Plan → Script → ℕ → ℕ
core_at plan script k = (task_at plan script k).core

-- the row k of a script is lawful, after those before it
pub record LawfulRow (plan : Plan) (script : Script) (k : ℕ) : Type 0 where
  -- its task is one of the plan
  pub known : (script.row k).task < plan.size
  -- it is released by 2^40
  pub early : (script.row k).release ≤ 2 ^ 40
  -- each phase takes 1 tick to its task's longest
  pub some_a : 1 ≤ (script.row k).a
  pub most_a : (script.row k).a ≤ (task_at plan script k).a
  pub some_e : 1 ≤ (script.row k).e
  pub most_e : (script.row k).e ≤ (task_at plan script k).e
  pub some_r : 1 ≤ (script.row k).r
  pub most_r : (script.row k).r ≤ (task_at plan script k).r
  -- it is not released before an earlier row
  pub rising : (j : ℕ) → j < k → (script.row j).release ≤ (script.row k).release
  -- and at least T after an earlier row of its task
  pub spaced : (j : ℕ) → j < k → (script.row j).task ≡ (script.row k).task
      → (script.row j).release + (task_at plan script k).spacing ≤ (script.row k).release

-- every row is lawful; a script may have any number of rows
abbrev pub LawfulScript : Plan → Script → Type 0
LawfulScript plan script = (k : ℕ) → k < script.size → LawfulRow plan script k
