-- What settling tells of all tasks of a plan. Assumes nothing.
use Rattle.std.specs.Prelude.{◌≡◌, ℕ, ◌<◌, Bool, true, false, List, length, count_by, slice_index_or}
use Rattle.tasks.specs.Limits.{Limit}
use Rattle.tasks.specs.declared.outcome.Outcome.{Outcome}
use Rattle.tasks.specs.declared.outcome.Outcome.TheVariants.{Window, Late}
use Rattle.argument.specs.Plans.{Plan}
use Rattle.argument.specs.Demand.{Settles}

-- one outcome for each task, in the plan's order, and each the task's own
pub record AllSettled (plan : Plan) (limits : ℕ → ℕ → Limit) (outcomes : List Outcome) : Type 0 where
  pub each : (place : ℕ) → place < plan.size → Settles plan limits place (slice_index_or outcomes place (Late 0))
  pub all : length outcomes ≡ plan.size

abbrev pub is_late : Outcome → Bool
is_late (Window ticks) = false
is_late (Late ticks) = true

-- how many are late
abbrev pub late_count : List Outcome → ℕ
late_count outcomes = count_by is_late outcomes
