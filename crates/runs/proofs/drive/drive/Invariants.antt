use Rattle.std.proofs.Common.{◌-◌, ◌≤◌, length, vec_len, vec_capacity}
use Rattle.argument.specs.Plans.{Plan}
use Rattle.bridge.specs.States.{begun}
use Rattle.runs.specs.Pool.{RowsBelow}
use Rattle.runs.specs.Shown.{At, AllInside}
use Rattle.runs.proofs.Driving.{Driven, most, pool}
use Rattle.runs.proofs.drive.drive.Given as goal

abbrev pub invariant-loop-ready : goal.invariant-loop-ready
invariant-loop-ready g l =
    ((P : Plan) → At g.B.Arbiter.means P l.jobs l.initial.arb l.initial.arb l.initial.time l.initial.stages (pool l.initial.ready.items.items l.initial.released) l.initial.log begun
    → Driven g.B.Arbiter.means P l.jobs l.initial.arb l.time l.released l.stages l.ready.items.items l.log l.arb)
    × AllInside (length l.jobs) l.stages
    × RowsBelow (length l.jobs) l.ready.items.items
    × (l.released ≤ length l.jobs)
    × (vec_len l.ready.items ≤ l.released)
    × (vec_capacity l.initial.ready.items ≤ vec_capacity l.ready.items)

abbrev pub decreases-loop-ready : goal.decreases-loop-ready
decreases-loop-ready g l = most - l.time
