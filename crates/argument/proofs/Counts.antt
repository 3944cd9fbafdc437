-- How many numbers below n pass a test: of moments that lie apart, only so many lie in a stretch.
use Rattle.std.proofs.Common.{◌≡◌, ℕ, zero, suc, ◌+◌, ◌-◌, ◌*◌, ◌<◌, ◌≤◌, min, Bool, true, false, ◌&&◌, ltb, leb, ◌⊎◌, inl, inr, arith}
use Rattle.std.proofs.lemmas.Bool.{cases_eq, and_parts, and_from, lt-ltb, le-leb}
use Rattle.argument.specs.Sums.{sum, on, ceil}
use Rattle.argument.proofs.Sums.{sum_zero, sum_le, sum_add}

-- [from, to) holds x
abbrev pub within : ℕ → ℕ → ℕ → Bool
within from to x = leb from x && ltb x to

pub on_le : (b : Bool) (x : ℕ) → on b x ≤ x
on_le b x = grind arith

pub on_false : (b : Bool) (x : ℕ) → b ≡ false → on b x ≡ 0
on_false b x h = grind arith

pub on_true : (b : Bool) (x : ℕ) → b ≡ true → on b x ≡ x
on_true b x h = grind arith

pub within_parts : (lo hi x : ℕ) → within lo hi x ≡ true → (lo ≤ x) × (x < hi)
within_parts lo hi x e = grind arith

pub within_from : (lo hi x : ℕ) → lo ≤ x → x < hi → within lo hi x ≡ true
within_from lo hi x a b = and_from _ _ (le-leb _ _ a) (lt-ltb _ _ b)

-- at most one index passes
pub at_most_one : (n : ℕ) (test : ℕ → Bool)
    → ((j k : ℕ) → j < n → k < n → test j ≡ true → test k ≡ true → j ≡ k) → sum n (λ k. on (test k) 1) ≤ 1
at_most_one zero test h = omega arith
at_most_one (suc n) test h = grind (arith, at_most_one n test, sum_zero n (λ k. on (test k) 1))

-- spacing: of moments pairwise at least T apart, at most q lie in a stretch of q * T
pub spacing : (n T : ℕ) (test : ℕ → Bool) (x : ℕ → ℕ)
    → ((j k : ℕ) → j < n → k < n → test j ≡ true → test k ≡ true → (j ≡ k → ⊥) → (x j + T ≤ x k) ⊎ (x k + T ≤ x j))
    → (lo q : ℕ) → sum n (λ k. on (test k && within lo (lo + q * T) (x k)) 1) ≤ q
spacing n T test x apart lo zero = omega (arith, sum_zero n (λ k. on (test k && within lo (lo + 0 * T) (x k)) 1) none)
  where
    none : (k : ℕ) → k < n → on (test k && within lo (lo + 0 * T) (x k)) 1 ≡ 0
    none k l = grind arith
spacing n T test x apart lo (suc q) =
    omega (arith, spacing n T test x apart lo q, one, sum_add n front block, sum_le n whole (λ k. front k + block k) split)
  where
    front : ℕ → ℕ
    front k = on (test k && within lo (lo + q * T) (x k)) 1

    block : ℕ → ℕ
    block k = on (test k && within (lo + q * T) (lo + q * T + T) (x k)) 1

    whole : ℕ → ℕ
    whole k = on (test k && within lo (lo + suc q * T) (x k)) 1

    one : sum n block ≤ 1
    one = at_most_one n (λ k. test k && within (lo + q * T) (lo + q * T + T) (x k)) same
      where
        same : (j k : ℕ) → j < n → k < n → (test j && within (lo + q * T) (lo + q * T + T) (x j)) ≡ true
            → (test k && within (lo + q * T) (lo + q * T + T) (x k)) ≡ true → j ≡ k
        same j k a b c d =
            elim (cases_eq j k) [
              | inl e ↦ e
              | inr ne ↦ absurd (far (within_parts _ _ _ (and_parts _ _ c).1) (within_parts _ _ _ (and_parts _ _ d).1)
                  (apart j k a b (and_parts _ _ c).0 (and_parts _ _ d).0 ne))
            ]
          where
            far : (lo + q * T ≤ x j) × (x j < lo + q * T + T) → (lo + q * T ≤ x k) × (x k < lo + q * T + T)
                → (x j + T ≤ x k) ⊎ (x k + T ≤ x j) → ⊥
            far u v s = omega arith

    split : (k : ℕ) → k < n → whole k ≤ front k + block k
    split k l = grind arith

-- the ticks of [lo, lo + n) that lie in [x, y)
pub clip : (n lo x y : ℕ) → sum n (λ t. on (within x y (lo + t)) 1) ≤ min y (lo + n) - x
clip zero lo x y = omega arith
clip (suc n) lo x y = grind (arith, clip n lo x y)

pub ceil_covers : (w t : ℕ) → 1 ≤ t → w ≤ ceil w t * t
ceil_covers w t h = omega arith
