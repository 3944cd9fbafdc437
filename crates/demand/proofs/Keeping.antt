-- What is kept of the offers of a core falls by length, and has for each task as many phases as the core offers.
use Rattle.std.proofs.Common.{◌≡◌, ℕ, zero, suc, ◌+◌, ◌*◌, ◌≤◌, Bool, true, false, cond, eqb, ltb, List, [], ◌∷◌, length, Ordering, Less, Equal, Greater, sym, refl, inl, inr, arith}
use Rattle.std.proofs.lemmas.List.Sums.{sum_by-cons}
use Rattle.std.proofs.lemmas.Bool.{cases_Bool, ltb-true, ltb-false, eqb-true, true≢false}
use Rattle.std.specs.Ordering.{is_lt, ordering_then}
use Rattle.roster.specs.Order.{insert_by}
use Rattle.tasks.specs.declared.task.Row.{Row}
use Rattle.argument.specs.Sums.{sum, on, ceil}
use Rattle.argument.specs.Demand.{offered}
use Rattle.argument.specs.LongestFirst.{NoneLonger, Falling, many_longer}
use Rattle.demand.specs.declared.offer.Phase.TheVariants.{A, R}
use Rattle.demand.specs.Offers.{Listed, listing, keeping, kept, of_core, phases_in}

-- ---- the order looks at the length first

by_length : (m n : ℕ) (a b : Bool) (rest : Ordering) → ltb m n ≡ a → eqb m n ≡ b
    → (is_lt (ordering_then (cond a Less (cond b Equal Greater)) rest) ≡ true → m ≤ n) × (is_lt (ordering_then (cond a Less (cond b Equal Greater)) rest) ≡ false → n ≤ m)
by_length m n true b rest p q = (λ _. omega (arith, ltb-true m n p), λ e. absurd (true≢false e))
by_length m n false true rest p q = (λ _. omega (arith, eqb-true m n q), λ _. omega (arith, eqb-true m n q))
by_length m n false false rest p q = (λ e. absurd (true≢false (sym e)), λ _. omega (arith, ltb-false m n p))

less_is_shorter : (x y : Listed) → is_lt (keeping x y) ≡ true → y.length ≤ x.length
less_is_shorter x y = (by_length y.length x.length _ _ _ refl refl).0

else_longer : (x y : Listed) → is_lt (keeping x y) ≡ false → x.length ≤ y.length
else_longer x y = (by_length y.length x.length _ _ _ refl refl).1

-- ---- insertion keeps the lengths falling

none_longer_more : (most more : ℕ) (phases : List (ℕ × ℕ)) → most ≤ more → NoneLonger most phases → NoneLonger more phases
none_longer_more most more [] h n = tt
none_longer_more most more ((length, many) ∷ rest) h n = (omega (arith, n.0), none_longer_more most more rest h n.1)

none_longer_insert : (w most : ℕ) (x : Listed) (xs : List Listed) → x.length ≤ most → NoneLonger most (phases_in w xs) → NoneLonger most (phases_in w (insert_by keeping x xs))
none_longer_insert w most x [] h n = (h, tt)
none_longer_insert w most x (y ∷ ys) h n = elim (cases_Bool (is_lt (keeping x y))) [
  | inl e ↦ rw e (h, n)
  | inr e ↦ rw e (n.0, none_longer_insert w most x ys h n.1)
]

falling_insert : (w : ℕ) (x : Listed) (xs : List Listed) → Falling (phases_in w xs) → Falling (phases_in w (insert_by keeping x xs))
falling_insert w x [] f = (tt, tt)
falling_insert w x (y ∷ ys) f = elim (cases_Bool (is_lt (keeping x y))) [
  | inl e ↦ rw e ((less_is_shorter x y e, none_longer_more y.length x.length (phases_in w ys) (less_is_shorter x y e) f.0), f)
  | inr e ↦ rw e (none_longer_insert w y.length x ys (else_longer x y e) f.0, falling_insert w x ys f.1)
]

kept_falls : (w : ℕ) (row : ℕ → Row) (n : ℕ) → Falling (phases_in w (kept row n))
kept_falls w row zero = tt
kept_falls w row (suc n) = falling_insert w (listing (row n) n R) _ (falling_insert w (listing (row n) n A) _ (kept_falls w row n))

-- ---- so does the choice of one core's

none_longer_of : (w core most : ℕ) (xs : List Listed) → NoneLonger most (phases_in w xs) → NoneLonger most (phases_in w (of_core core xs))
none_longer_of w core most [] n = tt
none_longer_of w core most (x ∷ xs) n = elim (cases_Bool (eqb x.core core)) [
  | inl e ↦ rw e (n.0, none_longer_of w core most xs n.1)
  | inr e ↦ rw e (none_longer_of w core most xs n.1)
]

falling_of : (w core : ℕ) (xs : List Listed) → Falling (phases_in w xs) → Falling (phases_in w (of_core core xs))
falling_of w core [] f = tt
falling_of w core (x ∷ xs) f = elim (cases_Bool (eqb x.core core)) [
  | inl e ↦ rw e (none_longer_of w core x.length xs f.0, falling_of w core xs f.1)
  | inr e ↦ rw e (falling_of w core xs f.1)
]

pub core_falls : (w core : ℕ) (row : ℕ → Row) (n : ℕ) → Falling (phases_in w (of_core core (kept row n)))
core_falls w core row n = falling_of w core (kept row n) (kept_falls w row n)

-- ---- how many phases are longer than l

-- of one offer, for a core
abbrev counts : ℕ → ℕ → ℕ → Listed → ℕ
counts w core l x = on (eqb x.core core) (on (ltb l x.length) (ceil (w + x.deadline) x.spacing))

first_counts : (w core l : ℕ) (x : Listed) (xs : List Listed)
    → many_longer l (phases_in w (of_core core (x ∷ xs))) ≡ counts w core l x + many_longer l (phases_in w (of_core core xs))
first_counts w core l x xs = elim (cases_Bool (eqb x.core core)) [
  | inl e ↦ rw e (sum_by-cons (λ phase. on (ltb l phase.0) phase.1) (x.length, ceil (w + x.deadline) x.spacing) (phases_in w (of_core core xs)))
  | inr e ↦ rw e (omega arith)
]

insert_counts : (w core l : ℕ) (x : Listed) (xs : List Listed)
    → many_longer l (phases_in w (of_core core (insert_by keeping x xs))) ≡ counts w core l x + many_longer l (phases_in w (of_core core xs))
insert_counts w core l x [] = first_counts w core l x []
insert_counts w core l x (y ∷ ys) = elim (cases_Bool (is_lt (keeping x y))) [
  | inl e ↦ rw e (first_counts w core l x (y ∷ ys))
  | inr e ↦ rw e (omega (arith, first_counts w core l y (insert_by keeping x ys), first_counts w core l y ys, insert_counts w core l x ys))
]

on_swap : (b c : Bool) (n : ℕ) → on b (on c n) ≡ on c (on b n)
on_swap true true n = refl
on_swap true false n = refl
on_swap false true n = refl
on_swap false false n = refl

pub kept_counts : (w core l : ℕ) (row : ℕ → Row) (n : ℕ)
    → many_longer l (phases_in w (of_core core (kept row n))) ≡ sum n (λ place. on (ltb l (row place).a) (offered core w (row place)) + on (ltb l (row place).r) (offered core w (row place)))
kept_counts w core l row zero = refl
kept_counts w core l row (suc n) =
    let own = eqb (row n).core core in
    let many = ceil (w + (row n).deadline) (row n).spacing in
    omega (
      arith,
      kept_counts w core l row n,
      insert_counts w core l (listing (row n) n A) (kept row n),
      insert_counts w core l (listing (row n) n R) (insert_by keeping (listing (row n) n A) (kept row n)),
      on_swap own (ltb l (row n).a) many,
      on_swap own (ltb l (row n).r) many,
    )

-- ---- two offers for each task

insert_length : (x : Listed) (xs : List Listed) → length (insert_by keeping x xs) ≡ length xs + 1
insert_length x [] = refl
insert_length x (y ∷ ys) = elim (cases_Bool (is_lt (keeping x y))) [
  | inl e ↦ rw e (omega arith)
  | inr e ↦ rw e (omega (arith, insert_length x ys))
]

pub kept_length : (row : ℕ → Row) (n : ℕ) → length (kept row n) ≡ 2 * n
kept_length row zero = refl
kept_length row (suc n) =
    omega (
      arith,
      kept_length row n,
      insert_length (listing (row n) n A) (kept row n),
      insert_length (listing (row n) n R) (insert_by keeping (listing (row n) n A) (kept row n)),
    )
