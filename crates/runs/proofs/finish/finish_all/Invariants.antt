use Rattle.runs.proofs.Finishing.{Finished}
use Rattle.runs.proofs.finish.finish_all.Given as goal

abbrev pub invariant-loop-stage : goal.invariant-loop-stage
invariant-loop-stage g l = Finished g.B.Arbiter.means l.time l.log l.initial.stages l.initial.arb l.stage-index l.stages l.arb
