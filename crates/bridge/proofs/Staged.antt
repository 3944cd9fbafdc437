-- A stage by its number.
use Rattle.std.proofs.Common.{◌≡◌, arith}
use Rattle.bridge.specs.Stages.{Stage, number}

pub same_stage : (s t : Stage) → number s ≡ number t → s ≡ t
same_stage s t e = grind arith
