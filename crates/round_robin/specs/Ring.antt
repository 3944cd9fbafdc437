-- Lemmas on places in the ring, and that the first set digit of the rotated mask is the first port in the count. Assumes nothing.
use Rattle.std.specs.Prelude.{◌≡◌, ℕ, ◌+◌, ◌-◌, ◌%◌, ◌^◌, ◌<◌, ◌≤◌, true, cond, ◌==◌, ◌≢◌, nat_lt, refl}
use Rattle.std.proofs.Common.{sym, ap, ◌∙◌, arith}
use Rattle.std.specs.Int.{bit_at}
use Rattle.std.proofs.lemmas.Bool.Decides.{nat_tests}
use Rattle.bus.specs.Masks.{has}
use Rattle.bus.proofs.Masks.{has_not, has_some, one_has, has_one, has_below, Lowest, lowest, lowest_in, rotated, bit_at_rotated, rotated_lt}
use Rattle.round_robin.specs.Rings.{place}

-- 1 if the count from s comes to b before a, else 0
abbrev pub turns : ℕ → ℕ → ℕ → ℕ
turns s a b = cond (nat_lt (place s b) (place s a)) 1 0

pub turns_le : (s a b : ℕ) → turns s a b ≤ 1
turns_le s a b = grind (arith, nat_tests)

pub turns_served : (a b : ℕ) → a < 16 → (b ≢ a) → turns (b + 1) a b + 1 ≤ 1
turns_served a b h ne = grind (arith, nat_tests)

pub turns_falls : (s a c : ℕ) → s ≤ 16 → a < 16 → c < 16 → (a ≢ c) → place s c ≤ place s a → turns (c + 1) a c + 1 ≤ turns s a c
turns_falls s a c hs ha hc ne first = grind (arith, nat_tests)

pub turns_kept : (s a b c : ℕ) → s ≤ 16 → a < 16 → c < 16 → (a ≢ c) → place s c ≤ place s a → turns (c + 1) a b ≤ turns s a b
turns_kept s a b c hs ha hc ne first = grind (arith, nat_tests)

place_is : (s x i : ℕ) → s ≤ 16 → i < 16 → x ≡ (s + i) % 16 → place s x ≡ s + i
place_is s x i hs hi e = grind (arith, nat_tests)

-- the first set bit of the mask, rotated so that port s comes first, is the first port that waits as one counts upward from s
abbrev pub chosen : ℕ → ℕ → ℕ
chosen m s = (s + lowest (rotated m s)) % 16

module _ (m s : ℕ) (low : m < 2 ^ 16) (some : 0 < m) (near : s ≤ 16) where
  -- port p is bit (p + 16 - s % 16) % 16 of the rotated mask
  seen : (p : ℕ) → has m p ≡ true → has (rotated m s) ((p + 16 - s % 16) % 16) ≡ true
  seen p h =
      let l : p < 16 = has_below m p 16 low h in
      let b : (s + (p + 16 - s % 16) % 16) % 16 ≡ p = omega arith in
      one_has (rotated m s) _ (bit_at_rotated m s ((p + 16 - s % 16) % 16) low (omega arith) ∙ ap (bit_at m) b ∙ has_one m p h)

  first_seen : Lowest (rotated m s) (lowest (rotated m s))
  first_seen = let waits = has_some m some low in lowest_in (rotated m s) (λ z. has_not (rotated m s) _ z (seen waits.0 waits.1)) (rotated_lt m s low)

  pub chosen_waits : has m (chosen m s) ≡ true
  chosen_waits = ap (λ x. x == 1) (sym (bit_at_rotated m s (lowest (rotated m s)) low first_seen.within)) ∙ first_seen.waits

  pub chosen_first : (p : ℕ) → has m p ≡ true → place s (chosen m s) ≤ place s p
  chosen_first p h =
      let i : ℕ = (p + 16 - s % 16) % 16 in
      let l : p < 16 = has_below m p 16 low h in
      let b : p ≡ (s + i) % 16 = omega arith in
      let li : i < 16 = omega arith in
      omega (arith, place_is s (chosen m s) (lowest (rotated m s)) near first_seen.within refl, place_is s p i near li b, first_seen.first i (seen p h))
