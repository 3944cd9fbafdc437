use Rattle.std.proofs.Common.{◌-◌, ◌≤◌}
use Rattle.argument.specs.Demand.{NoneBelow}
use Rattle.demand.specs.Cases.{plan, limits}
use Rattle.demand.proofs.case.Case.outcome.Given as goal

abbrev pub invariant-loop-needed : goal.invariant-loop-needed
invariant-loop-needed g l = (1 ≤ l.w) × (l.w ≤ l.deadline) × NoneBelow (plan l.self) (limits l.self) l.self.place l.w

abbrev pub decreases-loop-needed : goal.decreases-loop-needed
decreases-loop-needed g l = l.deadline - l.w
