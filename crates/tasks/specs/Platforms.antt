-- Bus lines and platforms in plain numbers, and when they are refused. Assumes nothing.
use Rattle.std.specs.Prelude.{ℕ, Bool, true, cond, ◌&&◌, ◌||◌, List, [], ◌∷◌, length, Ok, Err, Result, ◌==◌, nat_le, nat_lt}
use Rattle.tasks.specs.declared.platform.Bottom.{Bottom}
use Rattle.tasks.specs.declared.platform.Bottom.TheVariants.{Queue, RoundRobin}
use Rattle.tasks.specs.declared.platform.Favours.{Favours}
use Rattle.tasks.specs.declared.platform.Favours.TheVariants.{Nobody, One, Two}
use Rattle.tasks.specs.Refusals.{Told, refusal}

abbrev pub bottom_number : Bottom → ℕ
bottom_number Queue = 1
bottom_number RoundRobin = 2

abbrev pub is_bottom : ℕ → Bool
is_bottom number = number == 1 || number == 2

-- the favoured ports, the outermost first
abbrev pub favoured : Favours → List ℕ
favoured Nobody = []
favoured (One outer) = outer ∷ []
favoured (Two outer inner) = outer ∷ inner ∷ []

-- a bottom arbiter that is known, and at most two favours
abbrev pub line_verdict : ℕ → List ℕ → Result (Unit {0}) Told
line_verdict bottom favours = cond (is_bottom bottom && nat_le (length favours) 2) (Ok tt) (Err (refusal 3))

-- each is below n
abbrev pub all_below : ℕ → List ℕ → Bool
all_below n [] = true
all_below n (x ∷ xs) = nat_lt x n && all_below n xs

-- 1 to 16 cores, and a core for each favoured port
abbrev pub cores_fit : ℕ → List ℕ → Bool
cores_fit cores favours = nat_le 1 cores && nat_le cores 16 && all_below cores favours

abbrev pub cores_verdict : ℕ → List ℕ → Result (Unit {0}) Told
cores_verdict cores favours = cond (cores_fit cores favours) (Ok tt) (Err (refusal 6))
