-- The search for a window that jumps from a number of ticks to the demand for it. Assumes nothing.
use Rattle.std.specs.Prelude.{ℕ, zero, suc, cond, nat_le, nat_lt}
use Rattle.tasks.specs.Limits.{Limit}
use Rattle.tasks.specs.declared.outcome.Outcome.{Outcome}
use Rattle.tasks.specs.declared.outcome.Outcome.TheVariants.{Window, Late}
use Rattle.argument.specs.Plans.{Plan}
use Rattle.argument.specs.Demand.{demand}

-- from w on, at most so many jumps: stop where the demand is covered, give up past the deadline, else go on at the demand
abbrev pub searched : Plan → (ℕ → ℕ → Limit) → ℕ → ℕ → ℕ → Outcome
searched plan limits place zero w = Late (demand plan limits place (plan.row place).deadline)
searched plan limits place (suc jumps) w =
    cond (nat_lt (plan.row place).deadline w) (Late (demand plan limits place (plan.row place).deadline))
    (cond (nat_le (demand plan limits place w) w) (Window w) (searched plan limits place jumps (demand plan limits place w)))
