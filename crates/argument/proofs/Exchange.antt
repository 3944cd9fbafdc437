-- Sums by group, unions, one at most, the greatest.
use Rattle.std.proofs.Common.{◌≡◌, ℕ, zero, suc, ◌*◌, ◌<◌, ◌≤◌, Bool, true, false, ◌&&◌, eqb, ◌⊎◌, sym, refl, ap, ◌∙◌, inl, inr, mul-le-mul_left, arith}
use Rattle.std.proofs.lemmas.Bool.{cases_lt}
use Rattle.argument.specs.Sums.{sum, on, any, greatest}
use Rattle.argument.proofs.Sums.{sum_zero, sum_le, sum_eq, sum_mul, sum_none, sum_swap}
use Rattle.argument.proofs.Counts.{at_most_one}

pub on_mul : (p : Bool) (x : ℕ) → on p x ≡ x * on p 1
on_mul p x = grind arith

pub on_mono : (p : Bool) (x y : ℕ) → (p ≡ true → x ≤ y) → on p x ≤ on p y
on_mono p x y h = grind arith

-- a test that implies another
pub on_sub : (p q : Bool) (x : ℕ) → (p ≡ true → q ≡ true) → on p x ≤ on q x
on_sub p q x h = grind arith

pub sum_on : (n : ℕ) (p : Bool) (f : ℕ → ℕ) → sum n (λ k. on p (f k)) ≡ on p (sum n f)
sum_on n true f = refl
sum_on n false f = sum_none n

pub sum_single : (m v : ℕ) (φ : ℕ → ℕ) → v < m → sum m (λ u. on (eqb v u) (φ u)) ≡ φ v
sum_single zero v φ l = omega arith
sum_single (suc m) v φ l = grind (arith, sum_single m v φ, sum_zero m (λ u. on (eqb v u) (φ u)))

-- the sum over jobs of what their task says is the sum over tasks, times the number of its jobs
pub exchange : (n m : ℕ) (task : ℕ → ℕ) (test : ℕ → Bool) (φ : ℕ → ℕ) → ((k : ℕ) → k < n → task k < m)
    → sum n (λ k. on (test k) (φ (task k))) ≡ sum m (λ u. φ u * sum n (λ k. on (test k && eqb (task k) u) 1))
exchange n m task test φ known =
    sum_eq n (λ k. on (test k) (φ (task k))) (λ k. sum m (λ u. φ u * on (test k && eqb (task k) u) 1)) each
    ∙ sum_swap n m (λ k u. φ u * on (test k && eqb (task k) u) 1)
    ∙ sum_eq m (λ u. sum n (λ k. φ u * on (test k && eqb (task k) u) 1)) (λ u. φ u * sum n (λ k. on (test k && eqb (task k) u) 1))
    (λ u l. sum_mul n (φ u) (λ k. on (test k && eqb (task k) u) 1))
  where
    inner : (k u : ℕ) → on (test k) (on (eqb (task k) u) (φ u)) ≡ φ u * on (test k && eqb (task k) u) 1
    inner k u = grind arith

    each : (k : ℕ) → k < n → on (test k) (φ (task k)) ≡ sum m (λ u. φ u * on (test k && eqb (task k) u) 1)
    each k l =
        ap (on (test k)) (sym (sum_single m (task k) φ (known k l)))
        ∙ sym (sum_on m (test k) (λ u. on (eqb (task k) u) (φ u)))
        ∙ sum_eq m (λ u. on (test k) (on (eqb (task k) u) (φ u))) (λ u. φ u * on (test k && eqb (task k) u) 1) (λ u c. inner k u)

-- split a sum by a key below m
pub by_key : (n m : ℕ) (key : ℕ → ℕ) (f : ℕ → ℕ) → ((k : ℕ) → k < n → key k < m)
    → sum n f ≡ sum m (λ b. sum n (λ k. on (eqb (key k) b) (f k)))
by_key n m key f known =
    sum_eq n f (λ k. sum m (λ b. on (eqb (key k) b) (f k))) (λ k l. sym (sum_single m (key k) (λ _. f k) (known k l)))
    ∙ sum_swap n m (λ k b. on (eqb (key k) b) (f k))

-- of at most one
pub one_sum : (n B : ℕ) (test : ℕ → Bool) (f : ℕ → ℕ)
    → ((j k : ℕ) → j < n → k < n → test j ≡ true → test k ≡ true → j ≡ k)
    → ((k : ℕ) → k < n → test k ≡ true → f k ≤ B) → sum n (λ k. on (test k) (f k)) ≤ B
one_sum n B test f same most = grind (arith, sum_le n (λ k. on (test k) (f k)) (λ k. B * on (test k) 1), sum_mul n B (λ k. on (test k) 1), mul-le-mul_left B (at_most_one n test same), on_mul)

-- some passes
pub any_true : (n : ℕ) (test : ℕ → Bool) → any n test ≡ true → (k : ℕ) × (k < n) × (test k ≡ true)
any_true zero test e = grind arith
any_true (suc n) test e = let ih = any_true n test in grind arith

pub any_from : (n : ℕ) (test : ℕ → Bool) (k : ℕ) → k < n → test k ≡ true → any n test ≡ true
any_from zero test k l e = grind arith
any_from (suc n) test k l e = grind (arith, any_from n test)

pub greatest_point : (n : ℕ) (f : ℕ → ℕ) (k : ℕ) → k < n → f k ≤ greatest n f
greatest_point zero f k l = omega arith
greatest_point (suc n) f k l = grind (arith, greatest_point n f)

-- the greatest is one of them, or 0
pub greatest_reached : (n : ℕ) (f : ℕ → ℕ) → (greatest n f ≡ 0) ⊎ ((k : ℕ) × (k < n) × (f k ≡ greatest n f))
greatest_reached zero f = inl refl
greatest_reached (suc n) f =
    elim (cases_lt (greatest n f) (f n)) [
      | inl more ↦ inr (n, omega arith, omega arith)
      | inr less ↦ elim (greatest_reached n f) [
        | inl none ↦ inl (omega arith)
        | inr found ↦ inr (found.0, omega (arith, found.1), omega (arith, found.2))
      ]
    ]
