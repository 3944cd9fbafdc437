-- Ports in a ring, counted upward from a start. Assumes nothing.
use Rattle.std.specs.Prelude.{ℕ, ◌+◌, cond, nat_lt}

-- where port p stands in the count: those from the start on, then those from 0
abbrev pub place : ℕ → ℕ → ℕ
place start p = cond (nat_lt p start) (p + 16) p
