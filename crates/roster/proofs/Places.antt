-- What insertion by a total order gives: the place that the code finds is the definition's, and what was in order stays in order.
use Rattle.std.proofs.Common.{◌≡◌, ℕ, suc, ◌+◌, ◌<◌, ◌≤◌, Bool, true, false, not, List, [], ◌∷◌, length, Ordering, Less, Equal, Greater, refl, ap, ◌∙◌, ⊎_elim, arith}
use Rattle.std.proofs.lemmas.Bool.{cases_Bool, cases_lt, lt-ltb, le-ltb, and_parts, and_from}
use Rattle.std.proofs.lemmas.List.Sums.{prefix_len-le-length}
use Rattle.std.specs.List.{insert, position, position_or_len}
use Rattle.std.specs.Option.{unwrap_or}
use Rattle.std.specs.Cmp.{IsTotalOrder}
use Rattle.std.specs.Ordering.{is_lt, ordering_reverse}
use Rattle.roster.specs.Order.{insert_by, place_by, none_less, rises}

-- the first that passes, or the end
pub position_or_end : {X : Type 0} (test : X → Bool) (xs : List X) → unwrap_or (position test xs) (length xs) ≡ position_or_len test xs
position_or_end test xs =
    let first = position_or_len test xs in
    ⊎_elim
    (λ (inside : first < length xs). rw (lt-ltb first (length xs) inside) refl)
    (λ (past : length xs ≤ first). rw (le-ltb first (length xs) past) (omega (arith, prefix_len-le-length (λ x. not (test x)) xs)))
    (cases_lt first (length xs))

module _ {X : Type 0} (cmp : X → X → Ordering) (x : X) where
  pub inserted_is : (xs : List X) → insert xs (place_by cmp x xs) x ≡ insert_by cmp x xs
  inserted_is [] = refl
  inserted_is (y ∷ ys) =
      ⊎_elim (λ (e : is_lt (cmp x y) ≡ true). rw e refl) (λ (e : is_lt (cmp x y) ≡ false). rw e (let more : 1 + place_by cmp x ys ≡ suc (place_by cmp x ys) = omega arith in rw more (ap (λ (zs : List X). y ∷ zs) (inserted_is ys)))) (cases_Bool (is_lt (cmp x y)))

-- what an insertion leaves at the place that was found in a slice of the items
pub put_is : {X : Type 0} (cmp : X → X → Ordering) (x : X) {xs slice last : List X} {i : ℕ} → i ≡ place_by cmp x slice → slice ≡ xs → last ≡ insert xs i x → last ≡ insert_by cmp x xs
put_is cmp x {xs} {slice} {last} {i} p q e =
    let at : i ≡ place_by cmp x xs = p ∙ ap (place_by cmp x) q in
    let put : insert xs i x ≡ insert_by cmp x xs = rw at (inserted_is cmp x xs) in
    e ∙ put

less : (o : Ordering) → is_lt o ≡ true → o ≡ Less
less Less e = refl
less Equal e = cc
less Greater e = cc

module _ {X : Type 0} {R : X → X → Ordering} (o : IsTotalOrder R) (x : X) where
  none_insert : (z : X) (ys : List X) → is_lt (R x z) ≡ false → none_less R z ys ≡ true → none_less R z (insert_by R x ys) ≡ true
  none_insert z [] no_lt h = rw no_lt refl
  none_insert z (y ∷ ys) no_lt h =
      let p = and_parts (not (is_lt (R y z))) (none_less R z ys) h in
      ⊎_elim
      (λ (e : is_lt (R x y) ≡ true). rw e (rw no_lt h))
      (λ (e : is_lt (R x y) ≡ false). rw e (and_from (not (is_lt (R y z))) (none_less R z (insert_by R x ys)) p.0 (none_insert z ys no_lt p.1)))
      (cases_Bool (is_lt (R x y)))

  -- what is below y is below all that is not below y
  none_below : (y : X) (zs : List X) → R x y ≡ Less → none_less R y zs ≡ true → none_less R x zs ≡ true
  none_below y [] lt h = refl
  none_below y (z ∷ zs) lt h =
      let p = and_parts (not (is_lt (R z y))) (none_less R y zs) h in
      ⊎_elim
      (λ (e : is_lt (R z x) ≡ true). let t : R z y ≡ Less = o.trans z x y (less (R z x) e) lt in let q : not (is_lt (R z y)) ≡ false = rw t refl in cc (p.0, q))
      (λ (e : is_lt (R z x) ≡ false). rw e (none_below y zs lt p.1))
      (cases_Bool (is_lt (R z x)))

  pub rises_insert : (xs : List X) → rises R xs ≡ true → rises R (insert_by R x xs) ≡ true
  rises_insert [] h = refl
  rises_insert (y ∷ ys) h =
      let p = and_parts (none_less R y ys) (rises R ys) h in
      ⊎_elim
      (λ (e : is_lt (R x y) ≡ true).
      let lt : R x y ≡ Less = less (R x y) e in
      let gt : R y x ≡ Greater = o.antisymm y x ∙ ap ordering_reverse lt in
      rw e (and_from (none_less R x (y ∷ ys)) (rises R (y ∷ ys)) (rw gt (none_below y ys lt p.0)) h))
      (λ (e : is_lt (R x y) ≡ false). rw e (and_from (none_less R y (insert_by R x ys)) (rises R (insert_by R x ys)) (none_insert y ys e p.0) (rises_insert ys p.1)))
      (cases_Bool (is_lt (R x y)))
