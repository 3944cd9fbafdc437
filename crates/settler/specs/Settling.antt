-- When a settle is accepted, what it leaves, and what window tells of it. Assumes nothing.
use Rattle.std.specs.Prelude.{◌≡◌, ℕ, cond, List, Some, None, Ok, Err, Option, Result, ◌==◌, slice_index_or}
use Rattle.tasks.specs.Limits.{Limit}
use Rattle.tasks.specs.declared.outcome.Outcome.{Outcome}
use Rattle.tasks.specs.declared.outcome.Outcome.TheVariants.{Late}
use Rattle.tasks.specs.Refusals.{Told, refusal}
use Rattle.argument.specs.Plans.{plan_of}
use Rattle.demand.specs.Settled.{AllSettled, late_count}
use Rattle.settler.specs.Contents.{Content}
use Rattle.rules.specs.Rules.{place_of}

-- an arbiter with a port for each core
abbrev pub settle_verdict : ℕ → ℕ → Result (Unit {0}) Told
settle_verdict cores ports = cond (ports == cores) (Ok tt) (Err (refusal 14))

-- a plan settled on an arbiter's limits: the outcome of each task is its own, and nothing else of the plan changes
pub record SettledTo (before : Content) (limits : ℕ → ℕ → Limit) (late : ℕ) (after : Content) : Type 0 where
  pub outcomes : List Outcome
  pub each : AllSettled (plan_of before.cores before.rows) limits outcomes
  pub count : late ≡ late_count outcomes
  pub changed : after ≡ record { cores = before.cores; bottom = before.bottom; favours = before.favours; rows = before.rows; settled = Some outcomes }

-- the outcome at a place, if there is such a place and the plan is settled
abbrev pub outcome_at : Option ℕ → Option (List Outcome) → Result Outcome Told
outcome_at None settled = Err (refusal 8)
outcome_at (Some place) None = Err (refusal 13)
outcome_at (Some place) (Some outcomes) = Ok (slice_index_or outcomes place (Late 0))

abbrev pub window_answer : Content → ℕ → Result Outcome Told
window_answer plan id = outcome_at (place_of id plan.rows) plan.settled
