use Rattle.std.proofs.Common.{arith}
use Rattle.std.proofs.lemmas.List.{take_at}
use Rattle.runs.proofs.progress.Progress.finish.Goals as goal

pub invariant_of-self-clause-inside : goal.invariant_of-self-clause-inside
invariant_of-self-clause-inside g c = rw (take_at c.finish_all.new.stages _ c.args.self.now.stages.len (omega arith)) (c.finish_all.ensures.keeps _ (rw c.deref_mut.ensures.value c.args.self.now.inside))
