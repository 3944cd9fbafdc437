-- Finite sums, the greatest of finitely many numbers, and division rounded up: std has the first two of lists only. Assumes nothing.
use Rattle.std.specs.Prelude.{ℕ, zero, suc, ◌+◌, ◌-◌, ◌/◌, max, Bool, true, false, ◌||◌}

-- f 0 + .. + f (n - 1)
abbrev pub sum : ℕ → (ℕ → ℕ) → ℕ
sum zero f = 0
sum (suc n) f = sum n f + f n

-- the greatest of f 0, .., f (n - 1); 0 if there is none
abbrev pub greatest : ℕ → (ℕ → ℕ) → ℕ
greatest zero f = 0
greatest (suc n) f = max (greatest n f) (f n)

-- some number below n passes the test
abbrev pub any : ℕ → (ℕ → Bool) → Bool
any zero test = false
any (suc n) test = any n test || test n

-- n where the test passes, else 0
abbrev pub on : Bool → ℕ → ℕ
on true n = n
on false n = 0

-- ⌈w / t⌉, and 0 where t is 0, at which std's div_ceil is 1 for any w above 0
abbrev pub ceil : ℕ → ℕ → ℕ
ceil w t = (w + (t - 1)) / t
