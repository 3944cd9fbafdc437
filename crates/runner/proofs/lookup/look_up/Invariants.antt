use Rattle.std.proofs.Common.{◌≡◌, ℕ, ◌<◌, ◌≤◌, take}
use Rattle.argument.specs.Plans.{plan_of}
use Rattle.bridge.specs.Scripts.{LawfulRow}
use Rattle.runner.specs.Lookups.{jobs_for, script_for}
use Rattle.runner.proofs.lookup.look_up.Given as goal

abbrev pub invariant-loop-k : goal.invariant-loop-k
invariant-loop-k g l =
    (g.L.JobList.jobs l.jobs ≡ jobs_for l.rows (take l.k l.script))
    × (l.k ≤ 1024)
    × ((j : ℕ) → j < l.k → LawfulRow (plan_of 0 l.rows) (script_for l.rows l.script) j)
    × g.L.JobList.has_room l.jobs
    × g.L.JobList.cleared l.fn.jobs l.jobs
