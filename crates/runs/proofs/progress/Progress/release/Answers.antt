use Rattle.std.proofs.Common.{arith}
use Rattle.runs.proofs.progress.Progress.release.Goals as goal

pub returns-clause-pooled : goal.returns-clause-pooled
returns-clause-pooled c = λ P S f now h. (rw c.deref.ensures.value at c.release_due-self.ensures.pooled) P S (λ k l. f k (omega (arith, l, c.args.self.now.jobs.ok.0))) now h

pub returns-clause-all : goal.returns-clause-all
returns-clause-all c = rw c.deref.ensures.value at c.release_due-self.ensures.all
