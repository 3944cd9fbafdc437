-- Step 7: whose turns delay the core, how many, and for how long.
use Rattle.std.proofs.Common.{◌≡◌, ℕ, zero, suc, ◌+◌, ◌-◌, ◌*◌, ◌<◌, ◌≤◌, Bool, true, ◌&&◌, eqb, ltb, sym, ap, ◌∙◌, subst, inl, inr, mul-le-mul_left, arith, Some, None}
use Rattle.std.proofs.lemmas.Bool.{cases_Bool, not_from_false}
use Rattle.tasks.specs.Limits.{Within, times, Limit}
use Rattle.argument.specs.Sums.{sum, on, ceil}
use Rattle.argument.specs.General.{AtMostOthers, Task, Plan, Log, task_of, core_of, joins, meets, met, others, turns, offered, Lawful}
use Rattle.argument.proofs.Sums.{sum_zero, sum_le, sum_eq, sum_mul, sum_swap, sum_point, sum_same}
use Rattle.argument.proofs.Counts.{on_true}
use Rattle.argument.proofs.Exchange.{on_mono, sum_on, sum_single}
use Rattle.argument.proofs.Limits.{within_less}
use Rattle.argument.proofs.Cover.{counts, holds, holds_parts, counts_same, len, joins_turn, joins_end}
use Rattle.argument.proofs.OwnTicks.{task_count, counts_turns}

on_comm : (p q : Bool) (x : ℕ) → on p (on q x) ≡ on q (on p x)
on_comm p q x = grind arith

on_one : (p : Bool) (x : ℕ) → on p 1 * x ≡ on p x
on_one p x = grind arith

-- the sum over jobs, each over its task's turns, is the sum over tasks and turns
pub regroup : (n m : ℕ) (task N : ℕ → ℕ) (B : ℕ → ℕ → Bool) (φ : ℕ → ℕ → ℕ) → ((k : ℕ) → k < n → task k < m)
    → sum n (λ k. sum (N (task k)) (λ x. on (B k x) (φ (task k) x)))
    ≡ sum m (λ u. sum (N u) (λ x. φ u x * sum n (λ k. on (eqb (task k) u && B k x) 1)))
regroup n m task N B φ known =
    sum_eq n (λ k. G k (task k)) (λ k. sum m (λ u. on (eqb (task k) u) (G k u))) (λ k l. sym (sum_single m (task k) (G k) (known k l)))
    ∙ sum_swap n m (λ k u. on (eqb (task k) u) (G k u))
    ∙ sum_eq m (λ u. sum n (λ k. on (eqb (task k) u) (G k u))) (λ u. sum (N u) (λ x. φ u x * sum n (λ k. on (eqb (task k) u && B k x) 1))) each
  where
    G : ℕ → ℕ → ℕ
    G k u = sum (N u) (λ x. on (B k x) (φ u x))

    one : (k u x : ℕ) → on (eqb (task k) u) (on (B k x) (φ u x)) ≡ φ u x * on (eqb (task k) u && B k x) 1
    one k u x = grind arith

    each : (u : ℕ) → u < m → sum n (λ k. on (eqb (task k) u) (G k u)) ≡ sum (N u) (λ x. φ u x * sum n (λ k. on (eqb (task k) u && B k x) 1))
    each u l =
        sum_eq n (λ k. on (eqb (task k) u) (G k u)) (λ k. sum (N u) (λ x. φ u x * on (eqb (task k) u && B k x) 1))
        (λ k _. sym (sum_on (N u) (eqb (task k) u) (λ x. on (B k x) (φ u x)))
        ∙ sum_eq (N u) (λ x. on (eqb (task k) u) (on (B k x) (φ u x))) (λ x. φ u x * on (eqb (task k) u && B k x) 1) (λ x _. one k u x))
        ∙ sum_swap n (N u) (λ k x. φ u x * on (eqb (task k) u && B k x) 1)
        ∙ sum_eq (N u) (λ x. sum n (λ k. φ u x * on (eqb (task k) u && B k x) 1)) (λ x. φ u x * sum n (λ k. on (eqb (task k) u && B k x) 1))
        (λ x _. sum_mul n (φ u x) (λ k. on (eqb (task k) u && B k x) 1))

-- only the first m count
pub truncate : (N m : ℕ) (p : ℕ → Bool) (f : ℕ → ℕ) → m ≤ N → sum N (λ x. on (ltb x m && p x) (f x)) ≡ sum m (λ x. on (p x) (f x))
truncate zero m p f l = grind arith
truncate (suc N) m p f l = grind (arith, truncate N m p f, sum_eq)

module _ (group : ℕ → ℕ → Bool) (limits : ℕ → ℕ → Limit) (plan : Plan) (log : Log) (spacings : (u : ℕ) → u < plan.size → 1 ≤ (plan.task u).spacing)
    (law : Lawful group limits plan log) (i : Task) (t0 blocker w : ℕ)
    (punctual : (k : ℕ) → k < log.size → (log.job k).release + (task_of plan (log.job k)).reach ≤ t0 → (log.job k).end ≤ t0) where
  -- a turn lies in its job
  joins_after : (k : ℕ) → k < log.size → (x : ℕ) → x ≤ (log.job k).stays → (log.job k).start ≤ joins (log.job k) x
  joins_after k l zero h = (law.possible k l).begins
  joins_after k l (suc x) h = let p = law.possible k l in grind (arith, joins_after k l x, joins_turn (log.job k) x, p.waits x, p.serves x, p.goes_on x)

  -- d turns before the last
  joins_before : (k : ℕ) → k < log.size → (d x : ℕ) → x + d ≡ (log.job k).stays → joins (log.job k) x ≤ (log.job k).end
  joins_before k l zero x h = grind (arith, joins_end (log.job k))
  joins_before k l (suc d) x h = let p = law.possible k l in grind (arith, joins_before k l d (suc x), joins_turn (log.job k) x, p.waits x, p.serves x, p.goes_on x)

  lies_in : (k : ℕ) → k < log.size → (x : ℕ) → x < (log.job k).stays
      → (((log.job k).stay x).ended ≤ (log.job k).end) × ((log.job k).release ≤ ((log.job k).stay x).granted)
  lies_in k l x h =
      let p = law.possible k l in (
        omega (arith, p.goes_on x h, joins_before k l ((log.job k).stays - suc x) (suc x) (omega arith)),
        omega (arith, p.ready_from, p.starts, joins_after k l x (omega arith), joins_turn (log.job k) x h, p.waits x h),
      )

  -- whose: the releases lie in a stretch of w + reach
  whose : (k : ℕ) → k < log.size → (x : ℕ) → x < (log.job k).stays → holds plan log i t0 blocker w k x ≡ true
      → (t0 ≤ (log.job k).release + (task_of plan (log.job k)).reach) × ((log.job k).release + (task_of plan (log.job k)).reach < t0 + (w + (task_of plan (log.job k)).reach))
  whose k l x m e = let h = (holds_parts plan log i t0 blocker w k x e).2 in grind (arith, lies_in k l x m, punctual k l)

  -- turn x of job k is there, and holds the core up
  abbrev B : ℕ → ℕ → Bool
  B k x = ltb x (log.job k).stays && holds plan log i t0 blocker w k x

  abbrev chosen : ℕ → ℕ → ℕ
  chosen u x = sum log.size (λ k. on (eqb (log.job k).task u && B k x) 1)

  offers : (u : ℕ) → u < plan.size → (x : ℕ) → x < (plan.task u).stays → chosen u x ≤ offered i.core w (plan.task u)
  offers u known x _ =
      elim (cases_Bool (eqb (plan.task u).core i.core)) [
        | inr e ↦ omega (
          arith,
          on_true _ (ceil (w + (plan.task u).reach) (plan.task u).spacing) (not_from_false _ e),
          task_count group limits plan log spacings law u known (λ k. eqb (log.job k).task u && B k x) (plan.task u).reach t0 (w + (plan.task u).reach)
              (λ k l e. grind (arith, whose k l x)),
        )
        | inl n ↦ omega (arith, sum_zero log.size (λ k. on (eqb (log.job k).task u && B k x) 1) (λ k l. grind (arith, holds_parts plan log i t0 blocker w k x)))
      ]

  fewer : (k : ℕ) → k < log.size → (log.job k).stays ≤ (plan.task (log.job k).task).stays
  fewer k l = (law.possible k l).few

  -- a sum over the turns that hold, by tasks and turns
  by_task : (φ : ℕ → ℕ → ℕ) → sum log.size (λ k. sum (log.job k).stays (λ x. on (holds plan log i t0 blocker w k x) (φ (log.job k).task x)))
      ≡ sum plan.size (λ u. sum (plan.task u).stays (λ x. φ u x * chosen u x))
  by_task φ =
      sum_eq log.size (λ k. sum (log.job k).stays (λ x. on (holds plan log i t0 blocker w k x) (φ (log.job k).task x)))
      (λ k. sum (plan.task (log.job k).task).stays (λ x. on (B k x) (φ (log.job k).task x)))
      (λ k l. sym (truncate (plan.task (log.job k).task).stays (log.job k).stays (holds plan log i t0 blocker w k) (φ (log.job k).task) (fewer k l)))
      ∙ regroup log.size plan.size (λ k. (log.job k).task) (λ u. (plan.task u).stays) B φ law.known

  module _ (g : ℕ) where
    abbrev o : ℕ → Bool
    o k = others group i.core g (core_of plan (log.job k))

    -- the turns of k that meet turn x of j
    abbrev hits : ℕ → ℕ → ℕ → ℕ
    hits j x k = sum (log.job k).stays (λ y. on (meets ((log.job j).stay x) ((log.job k).stay y)) 1)

    abbrev hit : ℕ → ℕ → ℕ → ℕ
    hit j k y = sum (log.job j).stays (λ x. on (meets ((log.job j).stay x) ((log.job k).stay y)) 1)

    abbrev c : ℕ → Bool
    c j = counts plan log i t0 blocker w j

    union : (k y : ℕ) → holds plan log i t0 blocker w k y ≡ true → 1 ≤ sum log.size (λ j. on (c j) (hit j k y))
    union k y e = let f = holds_parts plan log i t0 blocker w k y e in grind (arith, sum_point log.size (λ j. on (c j) (hit j k y)) f.0, sum_point (log.job f.0).stays (λ x. on (meets ((log.job f.0).stay x) ((log.job k).stay y)) 1) f.1)

    -- of one k: over the jobs that count
    one_k : (k : ℕ) → sum (log.job k).stays (λ y. on (holds plan log i t0 blocker w k y) (on (o k) 1))
        ≤ sum log.size (λ j. on (c j) (on (o k) (sum (log.job j).stays (λ x. hits j x k))))
    one_k k =
        omega (
          arith,
          sum_le S (λ y. on (holds plan log i t0 blocker w k y) (on (o k) 1)) (λ y. on (o k) (U y)) each,
          sum_on S (o k) U,
          ap (on (o k)) turned,
          sum_on log.size (o k) (λ j. on (c j) (sum (log.job j).stays (λ x. hits j x k))),
          sum_eq log.size (λ j. on (o k) (on (c j) (sum (log.job j).stays (λ x. hits j x k)))) (λ j. on (c j) (on (o k) (sum (log.job j).stays (λ x. hits j x k))))
              (λ j _. on_comm (o k) (c j) (sum (log.job j).stays (λ x. hits j x k))),
        )
      where
        S : ℕ
        S = (log.job k).stays

        U : ℕ → ℕ
        U y = sum log.size (λ j. on (c j) (hit j k y))

        each : (y : ℕ) → y < S → on (holds plan log i t0 blocker w k y) (on (o k) 1) ≤ on (o k) (U y)
        each y _ = grind (arith, union k y)

        turned : sum S U ≡ sum log.size (λ j. on (c j) (sum (log.job j).stays (λ x. hits j x k)))
        turned =
            sum_swap S log.size (λ y j. on (c j) (hit j k y))
            ∙ sum_eq log.size (λ j. sum S (λ y. on (c j) (hit j k y))) (λ j. on (c j) (sum (log.job j).stays (λ x. hits j x k)))
            (λ j _. sum_on S (c j) (λ y. hit j k y)
            ∙ ap (on (c j)) (sum_swap S (log.job j).stays (λ y x. on (meets ((log.job j).stay x) ((log.job k).stay y)) 1)))

    -- of one j: what its waits meet
    one_j : (j : ℕ) → sum log.size (λ k. on (o k) (sum (log.job j).stays (λ x. hits j x k))) ≡ sum (log.job j).stays (λ x. met group plan log i.core ((log.job j).stay x) g)
    one_j j = grind (
      arith,
      sum_eq log.size (λ k. on (o k) (sum (log.job j).stays (λ x. hits j x k))) (λ k. sum (log.job j).stays (λ x. on (o k) (hits j x k))),
      sum_on (log.job j).stays,
      sum_swap log.size (log.job j).stays (λ k x. on (o k) (hits j x k)),
    )

    at_most : (l : ℕ) → ((j : ℕ) → j < log.size → c j ≡ true → (x : ℕ) → x < (log.job j).stays → met group plan log i.core ((log.job j).stay x) g ≤ l)
        → sum log.size (λ k. sum (log.job k).stays (λ y. on (holds plan log i t0 blocker w k y) (on (o k) 1))) ≤ turns plan i w * l
    at_most l most =
        omega (
          arith,
          sum_le n (λ k. sum (log.job k).stays (λ y. on (holds plan log i t0 blocker w k y) (on (o k) 1))) (λ k. sum n (λ j. on (c j) (V j k))) (λ k _. one_k k),
          sum_swap n n (λ k j. on (c j) (V j k)),
          sum_le n (λ j. sum n (λ k. on (c j) (V j k))) (λ j. l * on (c j) (log.job j).stays) job,
          sum_mul n l (λ j. on (c j) (log.job j).stays),
          mul-le-mul_left l (counts_turns group limits plan log spacings law i t0 blocker w),
        )
      where
        n : ℕ
        n = log.size

        V : ℕ → ℕ → ℕ
        V j k = on (o k) (sum (log.job j).stays (λ x. hits j x k))

        job : (j : ℕ) → j < n → sum n (λ k. on (c j) (V j k)) ≤ l * on (c j) (log.job j).stays
        job j q = grind (
          arith,
          one_j j,
          most j q,
          sum_on n (c j) (V j),
          sum_same (log.job j).stays l,
          sum_le (log.job j).stays (λ x. met group plan log i.core ((log.job j).stay x) g) (λ _. l),
        )

    few : Within (times (turns plan i w) (limits i.core g)) (sum log.size (λ k. sum (log.job k).stays (λ y. on (holds plan log i t0 blocker w k y) (on (o k) 1))))
    few = go (limits i.core g) limit
      where
        limit : (j : ℕ) → j < log.size → c j ≡ true → (x : ℕ) → x < (log.job j).stays → Within (limits i.core g) (met group plan log i.core ((log.job j).stay x) g)
        limit j l e x m = subst (λ q. Within (limits q g) (met group plan log q ((log.job j).stay x) g)) (counts_same plan log i t0 blocker w j e) (law.limited j l x m g)

        go : (b : Limit) → ((j : ℕ) → j < log.size → c j ≡ true → (x : ℕ) → x < (log.job j).stays → Within b (met group plan log i.core ((log.job j).stay x) g))
            → Within (times (turns plan i w) b) (sum log.size (λ k. sum (log.job k).stays (λ y. on (holds plan log i t0 blocker w k y) (on (o k) 1))))
        go (Some l) h = at_most l h
        go None h = tt

    few_chosen : Within (times (turns plan i w) (limits i.core g)) (sum plan.size (λ u. on (others group i.core g (plan.task u).core) (sum (plan.task u).stays (chosen u))))
    few_chosen = within_less (times (turns plan i w) (limits i.core g)) (sum plan.size (λ u. on (p u) (sum (plan.task u).stays (chosen u))))
        (sum log.size (λ k. sum (log.job k).stays (λ y. on (holds plan log i t0 blocker w k y) (on (o k) 1)))) few
        (omega (
          arith,
          by_task (λ u _. on (p u) 1),
          sum_eq plan.size (λ u. sum (plan.task u).stays (λ x. on (p u) 1 * chosen u x)) (λ u. on (p u) (sum (plan.task u).stays (chosen u)))
              (λ u _. sum_mul (plan.task u).stays (on (p u) 1) (chosen u) ∙ on_one (p u) (sum (plan.task u).stays (chosen u))),
        ))
      where
        p : ℕ → Bool
        p u = others group i.core g (plan.task u).core

  pub remote_ticks : (S : ℕ) → AtMostOthers group limits plan i w S
      → sum log.size (λ k. sum (log.job k).stays (λ y. on (holds plan log i t0 blocker w k y) (len ((log.job k).stay y)))) ≤ S
  remote_ticks S rest =
      omega (
        arith,
        rest chosen (record { each = offers; few = few_chosen }),
        by_task (λ u x. (plan.task u).long x),
        sum_le log.size (λ k. sum (log.job k).stays (λ y. on (holds plan log i t0 blocker w k y) (len ((log.job k).stay y))))
            (λ k. sum (log.job k).stays (λ y. on (holds plan log i t0 blocker w k y) ((plan.task (log.job k).task).long y)))
            (λ k l. sum_le (log.job k).stays (λ y. on (holds plan log i t0 blocker w k y) (len ((log.job k).stay y))) (λ y. on (holds plan log i t0 blocker w k y) ((plan.task (log.job k).task).long y))
            (λ y m. on_mono (holds plan log i t0 blocker w k y) (len ((log.job k).stay y)) ((plan.task (log.job k).task).long y) (λ _. omega (arith, (law.possible k l).most y m)))),
      )
