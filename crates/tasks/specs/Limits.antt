-- Limits as numbers, where no limit is above every number. Assumes nothing.
use Rattle.std.specs.Prelude.{ℕ, ◌+◌, ◌*◌, ◌≤◌, min, Some, None, Option}

-- a number, or no limit
abbrev pub Limit : Type 0
Limit = Option ℕ

-- a limit lets n through
abbrev pub Within : Limit → ℕ → Type 0
Within (Some m) n = n ≤ m
Within None n = Unit {0}

-- the first limit is at most the second
abbrev pub AtMost : Limit → Limit → Type 0
AtMost (Some m) limit = Within limit m
AtMost None (Some n) = ⊥
AtMost None None = Unit {0}

-- one more: no limit is one more than itself
abbrev pub more : Limit → Limit
more (Some m) = Some (m + 1)
more None = None

-- k times a limit
abbrev pub times : ℕ → Limit → Limit
times k (Some m) = Some (k * m)
times k None = None

-- n, cut to the limit
abbrev pub capped : Limit → ℕ → ℕ
capped (Some m) n = min m n
capped None n = n
