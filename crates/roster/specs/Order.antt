-- Insertion into a list that rises by a total order. Assumes nothing.
use Rattle.std.specs.Prelude.{ℕ, Bool, true, cond, not, ◌&&◌, List, [], ◌∷◌}
use Rattle.std.specs.declared.cmp.Ordering.{Ordering}
use Rattle.std.specs.List.{position_or_len}
use Rattle.std.specs.Ordering.{is_lt}

-- x before the first that it is less than
abbrev pub insert_by : {X : Type 0} → (X → X → Ordering) → X → List X → List X
insert_by cmp x [] = x ∷ []
insert_by cmp x (y ∷ ys) = cond (is_lt (cmp x y)) (x ∷ y ∷ ys) (y ∷ insert_by cmp x ys)

-- the place at which it then stands
abbrev pub place_by : {X : Type 0} → (X → X → Ordering) → X → List X → ℕ
place_by cmp x xs = position_or_len (λ y. is_lt (cmp x y)) xs

-- no y is less than x
abbrev pub none_less : {X : Type 0} → (X → X → Ordering) → X → List X → Bool
none_less cmp x [] = true
none_less cmp x (y ∷ ys) = not (is_lt (cmp y x)) && none_less cmp x ys

-- each is followed by none that is less
abbrev pub rises : {X : Type 0} → (X → X → Ordering) → List X → Bool
rises cmp [] = true
rises cmp (x ∷ xs) = none_less cmp x xs && rises cmp xs
