-- A plan: its cores and its tasks, each task by its place. Assumes nothing.
use Rattle.std.specs.Prelude.{◌≡◌, ℕ, ◌<◌, Bool, ◌&&◌, List, length, Ok, ◌==◌, nat_le, nat_lt, slice_index_or}
use Rattle.tasks.specs.declared.task.Row.{Row}
use Rattle.tasks.specs.Rows.{no_row, row_verdict}

pub record Plan : Type 0 where
  -- the cores are the numbers below this one
  pub cores : ℕ
  -- the places of the tasks are the numbers below this one
  pub size : ℕ
  -- the numbers of the task at a place
  pub row : ℕ → Row

-- the plan of a list of rows
abbrev pub plan_of : ℕ → List Row → Plan
plan_of cores rows = record { cores = cores; size = length rows; row = λ place. slice_index_or rows place no_row }

-- what every plan is that its calls accept
pub record SoundPlan (plan : Plan) : Type 0 where
  -- each row earns no refusal by itself: ranked, no empty phase, a + e + r ≤ D ≤ T
  pub tasks : (place : ℕ) → place < plan.size → row_verdict (plan.row place) ≡ Ok tt
  -- each task is on a core of the plan
  pub placed : (place : ℕ) → place < plan.size → (plan.row place).core < plan.cores
  -- no two tasks of one core have the same rank
  pub ranks : (place other : ℕ) → place < plan.size → other < plan.size
      → (plan.row place).core ≡ (plan.row other).core → (plan.row place).rank ≡ (plan.row other).rank → place ≡ other

-- the other is on the task's core, with a rank number that is not above the task's: its jobs go first, or it is the task itself
abbrev pub level : Row → Row → Bool
level task other = other.core == task.core && nat_le other.rank task.rank

-- the other is on the task's core, with a rank number above the task's: the task goes first
abbrev pub lower : Row → Row → Bool
lower task other = other.core == task.core && nat_lt task.rank other.rank
