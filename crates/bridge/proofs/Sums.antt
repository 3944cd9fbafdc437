-- Sums over a range, and how far one that is changed at a place, or bounded at all, can go.
use Rattle.std.proofs.Common.{◌≡◌, ℕ, zero, suc, ◌*◌, ◌<◌, ◌≤◌, arith}
use Rattle.argument.specs.Sums.{sum}
use Rattle.argument.proofs.Sums.{sum_le}
-- the crates that drive a run cite these from here
pub use Rattle.argument.proofs.Counts.{on_true, on_false}

-- at q one more, elsewhere no more
pub sum_bump : (n : ℕ) (f g : ℕ → ℕ) (q : ℕ) → ((k : ℕ) → k < n → (k ≡ q → ⊥) → g k ≤ f k) → (q < n → g q ≤ suc (f q)) → sum n g ≤ suc (sum n f)
sum_bump zero f g q h s = omega arith
sum_bump (suc n) f g q h s = grind (arith, sum_bump n f g q, sum_le n g f)

pub sum_most : (n c : ℕ) (f : ℕ → ℕ) → ((k : ℕ) → k < n → f k ≤ c) → sum n f ≤ c * n
sum_most zero c f h = omega arith
sum_most (suc n) c f h = grind (arith, sum_most n c f)
