use Rattle.std.proofs.Common.{◌≡◌, ℕ, ◌<◌, get_or, vec_items, vec_len, vec_capacity}
use Rattle.tasks.specs.declared.outcome.Outcome.TheVariants.{Late}
use Rattle.argument.specs.Plans.{plan_of}
use Rattle.argument.specs.Demand.{Settles}
use Rattle.demand.specs.Rows.{rows_of}
use Rattle.demand.proofs.search.tell_all.Given as goal

abbrev pub invariant-loop-place : goal.invariant-loop-place
invariant-loop-place g l =
    ((u : ℕ) → u < l.place → Settles (plan_of (g.B.Arbiter.means.meaning l.arbiter).ports (rows_of l.tasks)) (g.B.Arbiter.means.meaning l.arbiter).limit u (get_or (vec_items l.outcomes) u (Late 0)))
    × (vec_len l.outcomes ≡ l.place)
    × (vec_capacity l.outcomes ≡ vec_capacity l.initial.outcomes)
