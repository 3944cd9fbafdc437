use Rattle.std.proofs.Common.{◌≡◌, map, take}
use Rattle.runs.specs.Rows.{opened}
use Rattle.runs.proofs.rows.open.Given as goal

abbrev pub invariant-loop-k : goal.invariant-loop-k
invariant-loop-k l = take l.k l.log ≡ map opened (take l.k l.jobs)
