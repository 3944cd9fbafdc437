-- Sums over a range.
use Rattle.std.proofs.Common.{◌≡◌, ℕ, zero, suc, ◌+◌, ◌*◌, ◌<◌, ◌≤◌, sym, refl, ap, ◌∙◌, arith}
use Rattle.argument.specs.Sums.{sum}

pub sum_zero : (n : ℕ) (f : ℕ → ℕ) → ((k : ℕ) → k < n → f k ≡ 0) → sum n f ≡ 0
sum_zero zero f h = refl
sum_zero (suc n) f h = grind (arith, sum_zero n f)

pub sum_le : (n : ℕ) (f g : ℕ → ℕ) → ((k : ℕ) → k < n → f k ≤ g k) → sum n f ≤ sum n g
sum_le zero f g h = omega arith
sum_le (suc n) f g h = grind (arith, sum_le n f g)

pub sum_eq : (n : ℕ) (f g : ℕ → ℕ) → ((k : ℕ) → k < n → f k ≡ g k) → sum n f ≡ sum n g
sum_eq zero f g h = refl
sum_eq (suc n) f g h = grind (arith, sum_eq n f g)

pub sum_lt : (n : ℕ) (f g : ℕ → ℕ) → ((k : ℕ) → k < n → f k ≤ g k) → (q : ℕ) → q < n → f q < g q → sum n f < sum n g
sum_lt zero f g h q l s = omega arith
sum_lt (suc n) f g h q l s = grind (arith, sum_lt n f g, sum_le n f g)

pub sum_add : (n : ℕ) (f g : ℕ → ℕ) → sum n (λ k. f k + g k) ≡ sum n f + sum n g
sum_add zero f g = refl
sum_add (suc n) f g = omega (arith, sum_add n f g)

pub sum_mul : (n c : ℕ) (f : ℕ → ℕ) → sum n (λ k. c * f k) ≡ c * sum n f
sum_mul zero c f = omega arith
sum_mul (suc n) c f = omega (arith, sum_mul n c f)

pub sum_none : (n : ℕ) → sum n (λ _. 0) ≡ 0
sum_none n = sum_zero n (λ _. 0) (λ k l. refl)

pub sum_swap : (n m : ℕ) (f : ℕ → ℕ → ℕ) → sum n (λ i. sum m (λ j. f i j)) ≡ sum m (λ j. sum n (λ i. f i j))
sum_swap zero m f = sym (sum_none m)
sum_swap (suc n) m f = omega (arith, sum_swap n m f, sum_add m (λ j. sum n (λ i. f i j)) (λ j. f n j))

pub sum_point : (n : ℕ) (f : ℕ → ℕ) (q : ℕ) → q < n → f q ≤ sum n f
sum_point zero f q l = omega arith
sum_point (suc n) f q l = grind (arith, sum_point n f)

pub sum_split : (n m : ℕ) (f : ℕ → ℕ) → sum (n + m) f ≡ sum n f + sum m (λ k. f (n + k))
sum_split n zero f = ap (λ x. sum x f) none ∙ omega arith
  where
    none : n + 0 ≡ n
    none = omega arith
sum_split n (suc m) f = ap (λ x. sum x f) more ∙ omega (arith, sum_split n m f)
  where
    more : n + suc m ≡ suc (n + m)
    more = omega arith

pub sum_same : (n c : ℕ) → sum n (λ _. c) ≡ n * c
sum_same zero c = omega arith
sum_same (suc n) c = omega (arith, sum_same n c)
