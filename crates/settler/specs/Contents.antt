-- What a plan holds, in plain values; its working memory is no content. Assumes nothing.
use Rattle.std.specs.Prelude.{ℕ, cond, List, [], is_ok, Some, None, vec_items, Option, Result}
use Rattle.tasks.specs.declared.outcome.Outcome.{Outcome}
use Rattle.tasks.specs.declared.refusal.Refusal.{Refusal}
use Rattle.tasks.specs.declared.task.Row.{Row}
use Rattle.tasks.specs.Platforms.{bottom_number, favoured}
use Rattle.settler.specs.declared.plan.Plan.{Plan}

pub record Content : Type 0 where
  pub cores : ℕ
  -- the bus line: the bottom arbiter's number, and the favoured ports, the outermost first
  pub bottom : ℕ
  pub favours : List ℕ
  -- in order of adding
  pub rows : List Row
  -- the outcome of each row, since the last settle that no edit followed
  pub settled : Option (List Outcome)

abbrev pub content : Plan → Content
content plan = record {
  cores = plan.table.platform.cores;
  bottom = bottom_number plan.table.platform.line.bottom;
  favours = favoured plan.table.platform.line.favours;
  rows = vec_items plan.table.rows;
  settled = cond plan.settled (Some (vec_items plan.outcomes)) None;
}

-- a plan without a task
abbrev pub empty : ℕ → ℕ → List ℕ → Content
empty cores bottom favours = record { cores = cores; bottom = bottom; favours = favours; rows = []; settled = None }

-- an accepted edit puts new rows in place of the old and takes away what was settled; a refused one changes nothing
abbrev pub edited : {X : Type 0} → Result X Refusal → Content → List Row → Content
edited r before rows = cond (is_ok r) (record { cores = before.cores; bottom = before.bottom; favours = before.favours; rows = rows; settled = None }) before
