-- Step 6: own ticks, and how many turns count.
use Rattle.std.proofs.Common.{◌≡◌, ℕ, zero, suc, ◌+◌, ◌-◌, ◌*◌, ◌<◌, ◌≤◌, Bool, true, ◌&&◌, eqb, ◌⊎◌, refl, inl, inr, mul-le-mul_left, arith}
use Rattle.std.proofs.lemmas.Bool.{cases_Bool}
use Rattle.tasks.specs.Limits.{Limit}
use Rattle.argument.specs.Sums.{sum, on, ceil, greatest}
use Rattle.argument.specs.General.{Task, Plan, Log, task_of, joins, level, lower, jobs, block, own, turns, Possible, Lawful}
use Rattle.argument.proofs.Sums.{sum_zero, sum_le, sum_lt, sum_add}
use Rattle.argument.proofs.Counts.{within, on_true, spacing, ceil_covers}
use Rattle.argument.proofs.Exchange.{on_mono, exchange, one_sum, greatest_point}
use Rattle.argument.proofs.BusyWindow.{Level}
use Rattle.argument.proofs.Cover.{inside, blocks, counts, inside_from, own_in, own_in_le, clipped, joins_end}

module _ (group : ℕ → ℕ → Bool) (limits : ℕ → ℕ → Limit) (plan : Plan) (log : Log) (spacings : (u : ℕ) → u < plan.size → 1 ≤ (plan.task u).spacing) (law : Lawful group limits plan log) where
  -- jobs of one task whose releases, moved by d, lie in a stretch of `len` moments
  pub task_count : (u : ℕ) → u < plan.size → (F : ℕ → Bool) (d lo len : ℕ)
      → ((k : ℕ) → k < log.size → F k ≡ true → ((log.job k).task ≡ u) × (lo ≤ (log.job k).release + d) × ((log.job k).release + d < lo + len))
      → sum log.size (λ k. on (F k) 1) ≤ ceil len (plan.task u).spacing
  task_count u known F d lo len facts =
      omega (
        arith,
        spacing log.size T F (λ k. (log.job k).release + d) apart lo (ceil len T),
        sum_le log.size (λ k. on (F k) 1) (λ k. on (F k && within lo (lo + ceil len T * T) ((log.job k).release + d)) 1) each,
      )
    where
      T : ℕ
      T = (plan.task u).spacing

      covers : len ≤ ceil len T * T
      covers = ceil_covers len T (spacings u known)

      apart : (j k : ℕ) → j < log.size → k < log.size → F j ≡ true → F k ≡ true → (j ≡ k → ⊥)
          → ((log.job j).release + d + T ≤ (log.job k).release + d) ⊎ ((log.job k).release + d + T ≤ (log.job j).release + d)
      apart j k a b fj fk ne = grind arith

      each : (k : ℕ) → k < log.size → on (F k) 1 ≤ on (F k && within lo (lo + ceil len T * T) ((log.job k).release + d)) 1
      each k l = grind arith

  pub job_cost : (t0 w k : ℕ) → k < log.size → own_in t0 w (log.job k) ≤ (task_of plan (log.job k)).cost
  job_cost t0 w k l = grind (arith, own_in_le, sum_le)

  pub late_cost : (t0 w k : ℕ) → k < log.size → t0 + w < (log.job k).end → own_in t0 w (log.job k) < (task_of plan (log.job k)).cost
  late_cost t0 w k l late = go (log.job k).stays refl
    where
      p : Possible (task_of plan (log.job k)) (log.job k)
      p = law.possible k l

      full : ℕ → ℕ
      full x = joins (log.job k) (suc x) - ((log.job k).stay x).granted

      go : (m : ℕ) → (log.job k).stays ≡ m → own_in t0 w (log.job k) < (task_of plan (log.job k)).cost
      go zero e = grind (arith, own_in_le t0 w (log.job k), p.owns, p.lasts, joins_end (log.job k), sum_le (log.job k).stays (clipped (t0 + w) (log.job k)) full)
      go (suc m) e = grind (
        arith,
        own_in_le t0 w (log.job k),
        p.owns,
        joins_end (log.job k),
        p.serves m,
        p.goes_on m,
        sum_lt (log.job k).stays (clipped (t0 + w) (log.job k)) full,
      )

  module _ (i : Task) (t0 blocker w : ℕ) where
    pub inside_count : (u : ℕ) → u < plan.size
        → sum log.size (λ k. on (inside plan log i t0 w k && eqb (log.job k).task u) 1) ≤ jobs i w (plan.task u)
    inside_count u known =
        elim (cases_Bool (level i (plan.task u))) [
          | inl y ↦ omega (
            arith,
            on_true _ (ceil (w + (plan.task u).delay) (plan.task u).spacing) y,
            task_count u known (λ k. inside plan log i t0 w k && eqb (log.job k).task u) (plan.task u).delay t0 (w + (plan.task u).delay)
                (λ k l e. let p = law.possible k l in grind (arith, p.ready_from, p.ready_by)),
          )
          | inr z ↦ omega (arith, sum_zero log.size (λ k. on (inside plan log i t0 w k && eqb (log.job k).task u) 1) (λ k l. grind arith))
        ]

    -- what the tasks say, over the jobs inside
    pub inside_sum : (φ : ℕ → ℕ) → sum log.size (λ k. on (inside plan log i t0 w k) (φ (log.job k).task)) ≤ sum plan.size (λ u. φ u * jobs i w (plan.task u))
    inside_sum φ =
        omega (
          arith,
          exchange log.size plan.size (λ k. (log.job k).task) (inside plan log i t0 w) φ law.known,
          sum_le plan.size (λ u. φ u * sum log.size (λ k. on (inside plan log i t0 w k && eqb (log.job k).task u) 1))
              (λ u. φ u * jobs i w (plan.task u)) (λ u l. mul-le-mul_left (φ u) (inside_count u l)),
        )

    one_blocks : (j k : ℕ) → j < log.size → k < log.size → blocks plan log i blocker j ≡ true → blocks plan log i blocker k ≡ true → j ≡ k
    one_blocks j k a b ej ek = grind arith

    blocks_sum : (f φ : ℕ → ℕ) → ((k : ℕ) → k < log.size → f k ≤ φ (log.job k).task)
        → sum log.size (λ k. on (blocks plan log i blocker k) (f k)) ≤ greatest plan.size (λ u. on (lower i (plan.task u)) (φ u))
    blocks_sum f φ most = one_sum log.size (greatest plan.size (λ u. on (lower i (plan.task u)) (φ u))) (blocks plan log i blocker) f one_blocks
        (λ k l e. grind (arith, most k l, greatest_point plan.size (λ u. on (lower i (plan.task u)) (φ u)) (log.job k).task, law.known k l))

    split : (f : ℕ → ℕ) → sum log.size (λ k. on (counts plan log i t0 blocker w k) (f k))
        ≤ sum log.size (λ k. on (inside plan log i t0 w k) (f k)) + sum log.size (λ k. on (blocks plan log i blocker k) (f k))
    split f = grind (arith, sum_le log.size (λ k. on (counts plan log i t0 blocker w k) (f k)) (λ k. on (inside plan log i t0 w k) (f k) + on (blocks plan log i blocker k) (f k)), sum_add log.size (λ k. on (inside plan log i t0 w k) (f k)) (λ k. on (blocks plan log i blocker k) (f k)))

    -- the waits are at most `turns`
    pub counts_turns : sum log.size (λ k. on (counts plan log i t0 blocker w k) (log.job k).stays) ≤ turns plan i w
    counts_turns =
        omega (
          arith,
          split (λ k. (log.job k).stays),
          inside_sum (λ u. (plan.task u).stays),
          blocks_sum (λ k. (log.job k).stays) (λ u. (plan.task u).stays) fewer,
          sum_le log.size (λ k. on (inside plan log i t0 w k) (log.job k).stays) (λ k. on (inside plan log i t0 w k) (plan.task (log.job k).task).stays)
              (λ k l. on_mono (inside plan log i t0 w k) (log.job k).stays (plan.task (log.job k).task).stays (λ _. fewer k l)),
        )
      where
        fewer : (k : ℕ) → k < log.size → (log.job k).stays ≤ (plan.task (log.job k).task).stays
        fewer k l = (law.possible k l).few

    -- own ticks in the window
    pub own_ticks : (q : ℕ) → Level plan log i q → t0 ≤ (log.job q).ready → (log.job q).ready < t0 + w → t0 + w < (log.job q).end
        → sum log.size (λ k. on (counts plan log i t0 blocker w k) (own_in t0 w (log.job k))) < block plan i + own plan i w
    own_ticks q v from to late =
        omega (
          arith,
          split X,
          inside_sum (λ u. (plan.task u).cost),
          blocks_sum X (λ u. (plan.task u).cost) (job_cost t0 w),
          sum_lt log.size (λ k. on (inside plan log i t0 w k) (X k)) (λ k. on (inside plan log i t0 w k) (task_of plan (log.job k)).cost)
              (λ k l. on_mono (inside plan log i t0 w k) (X k) (task_of plan (log.job k)).cost (λ _. job_cost t0 w k l))
              q v.known
              (omega (arith, on_true _ (X q) yes', on_true _ (task_of plan (log.job q)).cost yes', late_cost t0 w q v.known late)),
        )
      where
        X : ℕ → ℕ
        X k = own_in t0 w (log.job k)

        yes' : inside plan log i t0 w q ≡ true
        yes' = inside_from plan log i t0 w q (record { same = v.same; high = v.high; from = from; to = to })
