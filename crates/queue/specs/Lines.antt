-- Ports in a line, the first in front. Assumes nothing.
use Rattle.std.specs.Prelude.{ℕ, Bool, cond, List, [], ◌∷◌, ◌==◌, nat_eq}
use Rattle.std.specs.List.{list_any, IsDistinct}

-- port p stands in the line
abbrev pub among : ℕ → List ℕ → Bool
among p xs = list_any (nat_eq p) xs

-- 1 if port b stands before port a, else 0
abbrev pub ahead : ℕ → ℕ → List ℕ → ℕ
ahead a b [] = 0
ahead a b (x ∷ xs) = cond (x == a) 0 (cond (x == b) 1 (ahead a b xs))

-- no port stands twice
abbrev pub Apart : List ℕ → Type 0
Apart xs = IsDistinct nat_eq xs
