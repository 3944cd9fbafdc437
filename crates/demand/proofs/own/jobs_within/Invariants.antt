use Rattle.std.proofs.Common.{◌≡◌, ◌+◌, ◌*◌, ◌≤◌, get_or}
use Rattle.tasks.specs.Rows.{no_row, cost}
use Rattle.argument.specs.Sums.{sum}
use Rattle.argument.specs.Demand.{jobs}
use Rattle.demand.specs.Rows.{rows_of}
use Rattle.demand.proofs.own.jobs_within.Given as goal

abbrev pub invariant-loop-other : goal.invariant-loop-other
invariant-loop-other l =
    (l.count ≡ sum l.other-index (λ place. jobs l.task.row l.w (get_or (rows_of l.tasks) place no_row)))
    × (l.ticks ≡ sum l.other-index (λ place. cost (get_or (rows_of l.tasks) place no_row) * jobs l.task.row l.w (get_or (rows_of l.tasks) place no_row)))
    × (l.count ≤ l.other-index * (l.w + 10000000))
    × (l.ticks ≤ l.other-index * ((l.w + 10000000) * 10000000))
