use Rattle.std.proofs.Common.{◌<◌, length, sym, ◌∙◌, arith}
use Rattle.bus.specs.Means.{Laws}
use Rattle.runs.proofs.Finishing.{finished_some, finished_none, finished_sure, finished_all, ended_in}
use Rattle.runs.proofs.finish.finish_all.Given.{Over}
use Rattle.runs.proofs.finish.finish_all.Goals.{then-leaves_bus+in_ok-done, else-leaves_bus}
use Rattle.runs.proofs.finish.finish_all.Goals as goal

laws : (g : Over) → Laws g.B.Arbiter.means
laws g = g.met.B.Arbiter.lawful

pub returns-in_err-done-clause-goes : goal.returns-in_err-done-clause-goes
returns-in_err-done-clause-goes g c =
    let l : c.loop-stage.stage-index < length c.loop-stage.stages = omega arith in
    λ P J x pool S a. absurd (finished_sure (laws g) c.loop-stage.invariant l c.in_err-done.field-0.0 (sym c.leaves_bus.ensures ∙ c.if-leaves_bus.true) c.in_err-done.ensures.account P J x pool S a)

pub returns-in_err-done-clause-keeps : goal.returns-in_err-done-clause-keeps
returns-in_err-done-clause-keeps g c =
    let l : c.loop-stage.stage-index < length c.loop-stage.stages = omega arith in
    λ n h. rw c.on.ensures (ended_in (laws g) c.loop-stage.invariant l n (c.loop-stage.invariant.keeps n h))

pub loop-stage-preserved : goal.loop-stage-preserved
loop-stage-preserved g c =
    let l : c.loop-stage.stage-index < length c.loop-stage.stages = omega arith in
    elim c.if-leaves_bus.branch [
      | then-leaves_bus+in_ok-done w ↦ finished_some (laws g) c.loop-stage.invariant l (sym c.leaves_bus.ensures ∙ w.if-leaves_bus.true) w.on.ensures w.stages-is w.arb-is w.in_ok-done.ensures.account
      | else-leaves_bus w ↦ finished_none (laws g) c.loop-stage.invariant l (sym c.leaves_bus.ensures ∙ w.if-leaves_bus.false) w.stages-is w.arb-is
    ]

pub returns-clause-goes : goal.returns-clause-goes
returns-clause-goes g c = finished_all c.loop-stage.invariant (length c.args.stages.now) (omega arith)
