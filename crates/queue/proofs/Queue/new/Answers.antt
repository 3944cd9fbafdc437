use Rattle.std.specs.List.{IsDistinct}
use Rattle.queue.proofs.Queue.new.Goals as goal

pub invariant_of-result-clause-once : goal.invariant_of-result-clause-once
unfolding IsDistinct
invariant_of-result-clause-once c = tt
