use Rattle.std.proofs.Common.{◌≡◌, length, map, sym, ap, ◌∙◌, arith}
use Rattle.std.proofs.lemmas.List.{length-take}
use Rattle.argument.specs.Plans.{plan_of}
use Rattle.bridge.specs.States.{begun}
use Rattle.bridge.specs.Scripts.{LawfulScript}
use Rattle.runs.specs.Rows.{opened}
use Rattle.runs.specs.Progress.{AtProgress}
use Rattle.runner.specs.Lookups.{jobs_for, script_for}
use Rattle.runner.specs.Outcomes.{Free}
use Rattle.runner.proofs.Starting.{any_cores, starts, ends}
use Rattle.runner.proofs.work.RunWork.run.Given.{Over}
use Rattle.runner.proofs.work.RunWork.run.Goals.{After-open}
use Rattle.runner.proofs.work.RunWork.run.Goals as goal

free : (g : Over) (c : After-open g) → Free g.B.Arbiter.means c.args.rows.now c.args.cores c.args.script.now c.args.arb.now
free g c =
    let i = c.idle.ensures.yes_idle c.if-not-idle.false in
    record { ports = sym c.ports.ensures ∙ c.if-ports-cores.false; stands = i.0; idle = i.1 }

law : (g : Over) (c : After-open g) → LawfulScript (plan_of c.args.cores c.args.rows.now) (script_for c.args.rows.now c.args.script.now)
law g c = any_cores c.args.rows.now c.args.script.now c.args.cores c.in_ok-look_up.ensures.found.2

jobs : (g : Over) (c : After-open g) → c.open.new.self.jobs.items ≡ jobs_for c.args.rows.now c.args.script.now
jobs g c = c.open.ensures.jobs ∙ c.in_ok-look_up.ensures.found.0

begins : (g : Over) (c : After-open g) → AtProgress g.B.Arbiter.means (plan_of c.args.cores c.args.rows.now) c.args.arb.now c.args.arb.now c.open.new.self c.open.new.log begun
begins g c =
    starts c.args.rows.now c.args.script.now c.args.cores c.requires.sound (law g c) g.B.Arbiter.means c.args.arb.now (free g c) c.open.new.self c.open.new.log
    (jobs g c) c.open.ensures.idle c.open.ensures.ready c.open.ensures.time c.open.ensures.released (c.open.ensures.log ∙ ap (map opened) c.in_ok-look_up.ensures.found.0)

pub drive-requires-clause-begins : goal.drive-requires-clause-begins
drive-requires-clause-begins g c = (plan_of c.args.cores c.args.rows.now, begins g (goal.at.drive-requires-clause-begins g c).After-open)

pub returns-in_err-drive : goal.returns-in_err-drive
returns-in_err-drive g c = absurd (c.in_err-drive.ensures.ran (plan_of c.args.cores c.args.rows.now) (begins g (goal.at.returns-in_err-drive g c).After-open))

pub returns : goal.returns
returns g c =
    let q = (goal.at.returns g c).After-open in
    ends c.args.rows.now c.args.script.now c.args.cores c.requires.sound (law g q) g.B.Arbiter.means c.args.arb.now (free g q) g.met.B.Arbiter.lawful c.drive.new.arb c.args.log.now c.drive.new.log
    c.in_ok-look_up.ensures.found.1 (omega arith) (omega (arith, length-take (length c.args.script.now) c.args.log.now)) (rw (jobs g q) at (c.in_ok-drive.ensures.ran (plan_of c.args.cores c.args.rows.now) (begins g q)))
