-- Lemmas on ports in a line. Assumes nothing.
use Rattle.std.specs.Prelude.{◌≡◌, ℕ, ◌<◌, ◌≤◌, true, false, nat_eq, List, [], ◌∷◌, ◌++◌, ◌≢◌}
use Rattle.std.proofs.Common.{sym, ◌∙◌, inl, inr, arith}
use Rattle.std.proofs.lemmas.Bool.{cases_eq}
use Rattle.std.proofs.lemmas.Grind.{common_steps}
use Rattle.std.proofs.lemmas.List.Folds.{list_any-append}
use Rattle.std.specs.List.{AllByRecursion}
use Rattle.std.proofs.lemmas.Map.Keys.{IsDistinct-head}
use Rattle.queue.specs.Lines.{among, ahead, Apart}

-- ---- who stands in a line

pub among_end : (xs : List ℕ) (a : ℕ) → among a (xs ++ (a ∷ [])) ≡ true
among_end xs a = grind (arith, common_steps, list_any-append)

pub among_other : (xs : List ℕ) (a p : ℕ) → (p ≢ a) → among p (xs ++ (a ∷ [])) ≡ among p xs
among_other xs a p ne = grind (arith, common_steps, list_any-append)

-- a line of ports below n that a port below n joins has only such
pub below_joined : (n : ℕ) (xs : List ℕ) (a : ℕ) → ((p : ℕ) → among p xs ≡ true → p < n) → a < n → (p : ℕ) → among p (xs ++ (a ∷ [])) ≡ true → p < n
below_joined n xs a h l p e = elim (cases_eq p a) [ inl q ↦ omega (arith, q, l) | inr ne ↦ h p (sym (among_other xs a p ne) ∙ e) ]

-- the first stands nowhere else
pub apart_first : (x : ℕ) (xs : List ℕ) → Apart (x ∷ xs) → among x xs ≡ false
apart_first x xs h = go xs (IsDistinct-head nat_eq x xs h)
  where
    go : (ys : List ℕ) → AllByRecursion (λ y. nat_eq x y ≡ false) ys → among x ys ≡ false
    go [] k = grind arith
    go (y ∷ ys) k = grind (arith, k.0, go ys k.1)

-- ---- who stands ahead of whom

pub ahead_le : (a b : ℕ) (xs : List ℕ) → ahead a b xs ≤ 1
ahead_le a b [] = omega arith
ahead_le a b (x ∷ xs) = grind (arith, common_steps, ahead_le a b xs)

-- one who joins the end stands ahead of nobody
pub ahead_end : (xs : List ℕ) (c a b : ℕ) → among a xs ≡ true → ahead a b (xs ++ (c ∷ [])) ≡ ahead a b xs
ahead_end [] c a b e = grind arith
ahead_end (x ∷ xs) c a b e = grind (arith, common_steps, ahead_end xs c a b)

-- one who does not stand in the line stands ahead of nobody
pub ahead_absent : (xs : List ℕ) (a b : ℕ) → among b xs ≡ false → ahead a b xs ≡ 0
ahead_absent [] a b e = grind arith
ahead_absent (x ∷ xs) a b e = grind (arith, common_steps, ahead_absent xs a b)
