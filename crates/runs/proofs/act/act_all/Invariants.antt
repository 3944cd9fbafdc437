use Rattle.std.proofs.Common.{◌≡◌, ◌≤◌, vec_len, vec_capacity, length}
use Rattle.runs.specs.Pool.{RowsBelow}
use Rattle.runs.proofs.Acting.{Acted}
use Rattle.runs.proofs.act.act_all.Given as goal

abbrev pub invariant-loop-c : goal.invariant-loop-c
invariant-loop-c g l =
    Acted g.B.Arbiter.means l.jobs l.time l.upto l.initial.stages l.initial.ready.items.items l.initial.log l.initial.arb l.c l.stages l.ready.items.items l.log l.arb
    × RowsBelow (length l.jobs) l.ready.items.items
    × (vec_len l.ready.items ≤ vec_len l.initial.ready.items)
    × (vec_capacity l.ready.items ≡ vec_capacity l.initial.ready.items)
