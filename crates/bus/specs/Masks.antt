-- A set of ports as a number with one bit for each port. Assumes nothing.
use Rattle.std.specs.Prelude.{ℕ, Bool, ◌==◌}
use Rattle.std.specs.Int.{bit_at}

-- port p is in the mask
abbrev pub has : ℕ → ℕ → Bool
has mask p = bit_at mask p == 1
