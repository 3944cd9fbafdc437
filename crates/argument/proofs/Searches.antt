-- Finite searches.
use Rattle.std.proofs.Common.{◌≡◌, ℕ, zero, suc, ◌<◌, ◌≤◌, ◌⊎◌, inl, inr, arith, below_none}
use Rattle.std.proofs.lemmas.Bool.{cases_lt}

-- all below n, or the first that fails
pub first_or : (n : ℕ) (A B : ℕ → Type 0) → ((k : ℕ) → A k ⊎ B k)
    → ((k : ℕ) → k < n → A k) ⊎ ((k : ℕ) × (k < n) × B k × ((j : ℕ) → j < k → A j))
first_or zero A B d = inl (below_none A)
first_or (suc n) A B d =
    elim (first_or n A B d) [
      | inr found ↦ inr (found.0, omega (arith, found.1), found.2, found.3)
      | inl all ↦ elim (d n) [
        | inr b ↦ inr (n, omega arith, b, all)
        | inl a ↦ inl (λ k l. elim (cases_lt k n) [ inl m ↦ all k m | inr m ↦ let e : k ≡ n = omega arith in rw e a ])
      ]
    ]

-- the greatest moment at or before p with A
pub greatest_moment : (A B : ℕ → Type 0) → ((t : ℕ) → A t ⊎ B t) → A 0 → (p : ℕ)
    → (t : ℕ) × (t ≤ p) × A t × ((u : ℕ) → t < u → u ≤ p → B u)
greatest_moment A B d a zero = (0, omega arith, a, λ u l m. absurd (omega arith))
greatest_moment A B d a (suc p) =
    elim (d (suc p)) [
      | inl here ↦ (suc p, omega arith, here, λ u l m. absurd (omega arith))
      | inr not ↦
          let g = greatest_moment A B d a p in (
            g.0,
            omega (arith, g.1),
            g.2,
            λ u l m. elim (cases_lt u (suc p)) [
              | inl b ↦ g.3 u l (omega arith)
              | inr b ↦ let e : u ≡ suc p = omega arith in rw e not
            ],
          )
    ]
