-- The order of limits. Assumes nothing.
use Rattle.std.proofs.Common.{arith}
use Rattle.tasks.specs.Limits.{AtMost, Limit, more}

pub at_most_self : (x : Limit) → AtMost x x
at_most_self x = grind arith

pub at_most_trans : (x y z : Limit) → AtMost x y → AtMost y z → AtMost x z
at_most_trans x y z p q = grind arith

pub more_at_most : (x y : Limit) → AtMost x y → AtMost (more x) (more y)
more_at_most x y p = grind arith

pub at_most_more : (x : Limit) → AtMost x (more x)
at_most_more x = grind arith
