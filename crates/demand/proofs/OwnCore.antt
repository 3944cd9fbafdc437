-- The longest of the tasks that go after one, as the chain finds it and as the definitions take it.
use Rattle.std.proofs.Common.{◌≡◌, ℕ, zero, suc, max, Bool, ◌||◌, List, [], ◌∷◌, map, length, get_or, is_some, unwrap_or, inl, inr, sym, refl, ap, ◌∙◌, arith}
use Rattle.std.specs.List.{filter, fold, reduce}
use Rattle.std.proofs.lemmas.Bool.{cases_Bool}
use Rattle.tasks.specs.declared.task.Row.{Row}
use Rattle.tasks.specs.declared.task.Task.{Task}
use Rattle.tasks.specs.Rows.{no_row, cost}
use Rattle.argument.specs.Sums.{greatest, any, on}
use Rattle.argument.specs.Plans.{lower}
use Rattle.demand.specs.Rows.{rows_of}

greatest_first : (n : ℕ) (f : ℕ → ℕ) → greatest (suc n) f ≡ max (f 0) (greatest n (λ i. f (suc i)))
greatest_first zero f = omega arith
greatest_first (suc n) f = omega (arith, greatest_first n f)

any_first : (n : ℕ) (test : ℕ → Bool) → any (suc n) test ≡ (test 0 || any n (λ i. test (suc i)))
any_first zero test = grind arith
any_first (suc n) test = grind (arith, any_first n test)

module _ (task : Row) where
  abbrev goes_after : Task → Bool
  goes_after other = lower task other.row

  abbrev cost_of : Task → ℕ
  cost_of other = cost other.row

  abbrev cost_at : List Task → ℕ → ℕ
  cost_at tasks place = on (lower task (get_or (rows_of tasks) place no_row)) (cost (get_or (rows_of tasks) place no_row))

  abbrev after_at : List Task → ℕ → Bool
  after_at tasks place = lower task (get_or (rows_of tasks) place no_row)

  longest_from : (tasks : List Task) (a : ℕ) → fold max a (map cost_of (filter goes_after tasks)) ≡ max a (greatest (length (rows_of tasks)) (cost_at tasks))
  longest_from [] a = omega arith
  longest_from (other ∷ rest) a = elim (cases_Bool (goes_after other)) [
    | inl e ↦ (let first = ap (λ b. on b (cost_of other)) e in
        rw e (omega (arith, first, longest_from rest (max a (cost_of other)), greatest_first (length (rows_of rest)) (cost_at (other ∷ rest)))))
    | inr e ↦ (let first = ap (λ b. on b (cost_of other)) e in
        rw e (omega (arith, first, longest_from rest a, greatest_first (length (rows_of rest)) (cost_at (other ∷ rest)))))
  ]

  -- the longest of those that go after the task
  pub longest_after : (tasks : List Task) → unwrap_or (reduce max (map cost_of (filter goes_after tasks))) 0 ≡ greatest (length (rows_of tasks)) (cost_at tasks)
  longest_after [] = refl
  longest_after (other ∷ rest) = elim (cases_Bool (goes_after other)) [
    | inl e ↦ (let first = ap (λ b. on b (cost_of other)) e in
        rw e (omega (arith, first, longest_from rest (cost_of other), greatest_first (length (rows_of rest)) (cost_at (other ∷ rest)))))
    | inr e ↦ (let first = ap (λ b. on b (cost_of other)) e in
        rw e (omega (arith, first, longest_after rest, greatest_first (length (rows_of rest)) (cost_at (other ∷ rest)))))
  ]

  -- there is one where some task goes after it
  pub some_after : (tasks : List Task) → is_some (reduce max (map cost_of (filter goes_after tasks))) ≡ any (length (rows_of tasks)) (after_at tasks)
  some_after [] = refl
  some_after (other ∷ rest) = elim (cases_Bool (goes_after other)) [
    | inl e ↦ rw e (sym (any_first (length (rows_of rest)) (after_at (other ∷ rest)) ∙ rw e refl))
    | inr e ↦ rw e (some_after rest ∙ sym (any_first (length (rows_of rest)) (after_at (other ∷ rest)) ∙ rw e refl))
  ]
