use Rattle.std.proofs.Common.{arith}
use Rattle.runs.proofs.Showing.{inside_more}
use Rattle.runs.proofs.Pools.{more_below}
use Rattle.runs.proofs.progress.Progress.add.Goals as goal

pub invariant_of-self-clause-inside : goal.invariant_of-self-clause-inside
invariant_of-self-clause-inside c = inside_more _ _ _ (omega arith) c.args.self.now.inside

pub invariant_of-self-clause-below : goal.invariant_of-self-clause-below
invariant_of-self-clause-below c = more_below _ _ _ (omega arith) c.args.self.now.below
