-- Who is in a mask, and what `|`, `^`, `&`, a count of trailing zeros and a rotation do to it. Assumes nothing.
use Rattle.std.proofs.Common.{◌≡◌, ℕ, zero, suc, ◌+◌, ◌-◌, ◌*◌, ◌/◌, ◌%◌, ◌^◌, ◌<◌, ◌≤◌, max, true, false, ◌⊎◌, sym, refl, ap, ◌∙◌, inl, inr, add-zero, mul-one, pow-suc, arith}
use Rattle.std.proofs.Math.Pow.{pow_mono}
use Rattle.std.specs.Int.{bit_at, w16}
use lib.Bits.{bit_and, bit_or, bit_xor}
use lib.Count.{count_trailing_zeros, under}
use Rattle.std.proofs.lemmas.Nat.{pow_pos, shl-shr, shr-shr, shr_split, or_lt, xor_lt, pow_below, shr_le, one_shl}
use Rattle.std.proofs.lemmas.Nat.Bits.{bit_at-lt, bit_at-zero, bit_at-suc, bit_at_or, bit_at_xor, bit_at-pow_same, bit_at-pow_other, and_pow, bit_at_above, bit_at_cat_low, bit_at-trailing_zeros}
use Rattle.std.proofs.lemmas.Bool.{cases_lt, cases_eq}
use Rattle.bus.specs.Masks.{has}

-- ---- who is in a mask

pub has_one : (m p : ℕ) → has m p ≡ true → bit_at m p ≡ 1
has_one m p e = grind arith

pub one_has : (m p : ℕ) → bit_at m p ≡ 1 → has m p ≡ true
one_has m p e = grind arith

pub has_zero : (m p : ℕ) → has m p ≡ false → bit_at m p ≡ 0
has_zero m p e = grind (arith, bit_at-lt m p)

pub zero_has : (m p : ℕ) → bit_at m p ≡ 0 → has m p ≡ false
zero_has m p e = grind arith

-- a port that waits is a port
pub has_below : (m p k : ℕ) → m < 2 ^ k → has m p ≡ true → p < k
has_below m p k h e = grind (arith, bit_at_above m k p h)

pub has_or_same : (m a : ℕ) → has (bit_or m (2 ^ a)) a ≡ true
has_or_same m a = grind (arith, bit_at_or m (2 ^ a) a, bit_at-pow_same a, bit_at-lt m a)

pub has_or_other : (m a p : ℕ) → (p ≡ a → ⊥) → has (bit_or m (2 ^ a)) p ≡ has m p
has_or_other m a p ne = grind (arith, bit_at_or m (2 ^ a) p, bit_at-pow_other a p ne)

pub has_xor_same : (m a : ℕ) → has m a ≡ true → has (bit_xor m (2 ^ a)) a ≡ false
has_xor_same m a e = grind (arith, bit_at_xor m (2 ^ a) a, bit_at-pow_same a)

pub has_xor_other : (m a p : ℕ) → (p ≡ a → ⊥) → has (bit_xor m (2 ^ a)) p ≡ has m p
has_xor_other m a p ne = grind (arith, bit_at_xor m (2 ^ a) p, bit_at-pow_other a p ne, bit_at-lt m p)

pub has_none : (p : ℕ) → has 0 p ≡ false
has_none p = grind (arith, bit_at-zero p)

pub has_not : (m p : ℕ) → m ≡ 0 → has m p ≡ true → ⊥
has_not m p z e = grind (arith, has_none p)

-- ---- the lowest port of a mask of at most 16

abbrev pub lowest : ℕ → ℕ
lowest m = count_trailing_zeros 16 m

pub record Lowest (m c : ℕ) : Type 0 where
  pub within : c < 16
  pub waits : has m c ≡ true
  pub first : (p : ℕ) → has m p ≡ true → c ≤ p

pub lowest_in : (m : ℕ) → (m ≡ 0 → ⊥) → m < 2 ^ 16 → Lowest m (lowest m)
lowest_in m some low =
    let k = bit_at-trailing_zeros w16 m (omega (arith, some)) low in record {
      within = k.0;
      waits = one_has m (lowest m) k.1;
      first = λ p h. grind (arith, k.2 p);
    }

pub has_some : (m : ℕ) → 0 < m → m < 2 ^ 16 → (p : ℕ) × (has m p ≡ true)
has_some m some low = (lowest m, (lowest_in m (λ z. omega arith) low).waits)

-- ---- the trailing zeros of a number of any width

under_zero : (d t : ℕ) → d ≡ 0 → under d t ≡ suc t
under_zero d t e = rw e refl

under_one : (d t : ℕ) → d ≡ 1 → under d t ≡ 0
under_one d t e = rw e refl

zero_or_one : (n : ℕ) → (n % 2 ≡ 0) ⊎ (n % 2 ≡ 1)
zero_or_one n = elim (cases_eq (n % 2) 0) [ inl e ↦ inl e | inr e ↦ inr (omega arith) ]

-- the bit at the count is set, and none below it is
pub trailing_digit : (k n : ℕ) → count_trailing_zeros k n < k → bit_at n (count_trailing_zeros k n) ≡ 1
unfolding count_trailing_zeros
trailing_digit zero n h = absurd (omega arith)
trailing_digit (suc k) n h = elim (zero_or_one n) [
  | inl e ↦ (
      let u = under_zero (n % 2) (count_trailing_zeros k (n / 2)) e in
      let l : count_trailing_zeros k (n / 2) < k = omega (arith, u) in
      ap (bit_at n) u ∙ bit_at-suc n (count_trailing_zeros k (n / 2)) ∙ trailing_digit k (n / 2) l)
  | inr e ↦ (
      let u = under_one (n % 2) (count_trailing_zeros k (n / 2)) e in
      ap (bit_at n) u ∙ (let z : n / 1 % 2 ≡ 1 = omega arith in z))
]

pub trailing_below : (k n i : ℕ) → i < count_trailing_zeros k n → bit_at n i ≡ 0
unfolding count_trailing_zeros
trailing_below zero n i h = absurd (omega arith)
trailing_below (suc k) n zero h = elim (zero_or_one n) [
  | inl e ↦ (let z : n / 1 % 2 ≡ 0 = omega arith in z)
  | inr e ↦ absurd (omega (arith, under_one (n % 2) (count_trailing_zeros k (n / 2)) e))
]
trailing_below (suc k) n (suc i) h = elim (zero_or_one n) [
  | inl e ↦ (
      let u = under_zero (n % 2) (count_trailing_zeros k (n / 2)) e in
      let l : i < count_trailing_zeros k (n / 2) = omega (arith, u) in
      bit_at-suc n i ∙ trailing_below k (n / 2) i l)
  | inr e ↦ absurd (omega (arith, under_one (n % 2) (count_trailing_zeros k (n / 2)) e))
]

-- a number that is not 0 has a bit
pub trailing_lt : (k n : ℕ) → 0 < n → n < 2 ^ k → count_trailing_zeros k n < k
unfolding count_trailing_zeros
trailing_lt zero n p h = absurd (omega arith)
trailing_lt (suc k) n p h = elim (zero_or_one n) [
  | inl e ↦ (
      let l : n / 2 < 2 ^ k = (let q : 2 ^ suc k ≡ 2 ^ k * 2 = pow-suc 2 k in omega arith) in
      let ih = trailing_lt k (n / 2) (omega arith) l in
      omega (arith, under_zero (n % 2) (count_trailing_zeros k (n / 2)) e, ih))
  | inr e ↦ omega (arith, under_one (n % 2) (count_trailing_zeros k (n / 2)) e)
]

-- ---- with n ports, at most 16

pub low_16 : (m n : ℕ) → m < 2 ^ n → n ≤ 16 → m < 2 ^ 16
low_16 m n h few = omega (arith, pow_mono few)

-- a mask stays one of these ports when the bit of one of them is set or flipped
pub or_below : (m a n : ℕ) → m < 2 ^ n → a < n → bit_or m (2 ^ a) < 2 ^ n
or_below m a n h l = or_lt n m (2 ^ a) h (pow_below a n l)

pub xor_below : (m a n : ℕ) → m < 2 ^ n → a < n → bit_xor m (2 ^ a) < 2 ^ n
xor_below m a n h l = xor_lt n m (2 ^ a) h (pow_below a n l)

-- the bit of a port
pub flag : (a n : ℕ) → a < n → n ≤ 16 → (1 * 2 ^ a) % 65536 ≡ 2 ^ a
flag a n h few = one_shl a 16 (omega arith)

pub flag_set : (m a f : ℕ) → f ≡ 2 ^ a → (bit_and m f ≡ 0 → ⊥) → has m a ≡ true
flag_set m a f e n = grind (arith, and_pow m a, bit_at-lt m a)

pub flag_clear : (m a f : ℕ) → f ≡ 2 ^ a → bit_and m f ≡ 0 → has m a ≡ false
flag_clear m a f e z = grind (arith, and_pow m a, bit_at-lt m a, pow_pos a)

-- ---- a rotation to the right of a number of 16 bits

abbrev pub rotated : ℕ → ℕ → ℕ
rotated n by = bit_or (n / 2 ^ (by % 16)) ((n * 2 ^ ((16 - by % 16) % 16)) % 2 ^ 16)

-- a bit below the cut outlives it, and what shifting up does to a bit
pub bit_cut : (n k i : ℕ) → i < k → bit_at (n % 2 ^ k) i ≡ bit_at n i
bit_cut n k i h = sym (bit_at_cat_low (n / 2 ^ k) k (n % 2 ^ k) i h) ∙ ap (λ x. bit_at x i) (shr_split n k)

pub bit_shl_low : (n k i : ℕ) → i < k → bit_at (n * 2 ^ k) i ≡ 0
bit_shl_low n k i h = ap (λ x. bit_at x i) (sym (add-zero (n * 2 ^ k))) ∙ bit_at_cat_low n k 0 i h ∙ bit_at-zero i

pub bit_shl_high : (n k i : ℕ) → bit_at (n * 2 ^ k) (k + i) ≡ bit_at n i
bit_shl_high n k i = ap (λ x. x % 2) (sym (shr-shr (n * 2 ^ k) k i) ∙ ap (λ x. x / 2 ^ i) (shl-shr n k))

rotated_ways : (n by i j e : ℕ) → j ≡ by % 16 → e ≡ (16 - j) % 16 → n < 2 ^ 16 → i < 16 → (j ≡ 0) ⊎ (j ≡ 0 → ⊥) → (i < 16 - j) ⊎ (16 - j ≤ i)
    → max (bit_at n (j + i)) (bit_at (n * 2 ^ e) i) ≡ bit_at n ((by + i) % 16)
rotated_ways n by i j e je ee h k (inl z) w =
    let ez : e ≡ 0 = omega arith in
    let ji : j + i ≡ i = omega arith in
    let bi : (by + i) % 16 ≡ i = omega arith in
    omega (arith, ap (bit_at n) ji, ap (λ x. bit_at (n * 2 ^ x) i) ez, ap (λ x. bit_at x i) (mul-one n), ap (bit_at n) bi)
rotated_ways n by i j e je ee h k (inr nz) (inl l) =
    let bi : (by + i) % 16 ≡ j + i = omega arith in
    omega (arith, bit_shl_low n e i (omega arith), ap (bit_at n) bi)
rotated_ways n by i j e je ee h k (inr nz) (inr l) =
    let ei : i ≡ e + (i - e) = omega arith in
    let bi : (by + i) % 16 ≡ i - e = omega arith in
    omega (arith, bit_at_above n 16 (j + i) h (omega arith), ap (bit_at (n * 2 ^ e)) ei, bit_shl_high n e (i - e), ap (bit_at n) bi)

pub bit_at_rotated : (n by i : ℕ) → n < 2 ^ 16 → i < 16 → bit_at (rotated n by) i ≡ bit_at n ((by + i) % 16)
bit_at_rotated n by i h k =
    let j : ℕ = by % 16 in
    let e : ℕ = (16 - by % 16) % 16 in
    bit_at_or (n / 2 ^ j) ((n * 2 ^ e) % 2 ^ 16) i
    ∙ ap (λ x. max (bit_at (n / 2 ^ j) i) x) (bit_cut (n * 2 ^ e) 16 i k)
    ∙ ap (λ x. max (x % 2) (bit_at (n * 2 ^ e) i)) (shr-shr n j i)
    ∙ rotated_ways n by i j e refl refl h k (cases_eq j 0) (cases_lt i (16 - j))

pub rotated_lt : (n by : ℕ) → n < 2 ^ 16 → rotated n by < 2 ^ 16
rotated_lt n by h = or_lt 16 (n / 2 ^ (by % 16)) ((n * 2 ^ ((16 - by % 16) % 16)) % 2 ^ 16) (omega (arith, h, shr_le n (by % 16))) (omega arith)
