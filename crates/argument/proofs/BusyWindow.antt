-- Steps 1 to 4: where the busy window begins, who blocks it, who is on the core in it, and what is left over at its end.
use Rattle.std.proofs.Common.{◌≡◌, ℕ, suc, ◌+◌, ◌<◌, ◌≤◌, max, Bool, ◌&&◌, ltb, ◌⊎◌, refl, ◌∙◌, inl, inr, arith}
use Rattle.std.proofs.lemmas.Bool.{cases_lt}
use Rattle.tasks.specs.Limits.{Limit}
use Rattle.argument.specs.Sums.{on, greatest}
use Rattle.argument.specs.General.{Task, Plan, Log, task_of, core_of, lower, Lawful}
use Rattle.argument.proofs.Exchange.{greatest_point, greatest_reached}
use Rattle.argument.proofs.Searches.{first_or, greatest_moment}

-- a job at i's level
pub record Level (plan : Plan) (log : Log) (i : Task) (k : ℕ) : Type 0 where
  pub known : k < log.size
  pub same : core_of plan (log.job k) ≡ i.core
  pub high : (task_of plan (log.job k)).rank ≤ i.rank

-- a lower job that was started before t
abbrev pub under_way : Plan → Log → Task → ℕ → ℕ → Bool
under_way plan log i t k = lower i (task_of plan (log.job k)) && ltb (log.job k).start t

-- the end of the last of them, or t
abbrev pub horizon : Plan → Log → Task → ℕ → ℕ
horizon plan log i t = max t (greatest log.size (λ k. on (under_way plan log i t k) (log.job k).end))

-- a lower job
pub record Lower (plan : Plan) (log : Log) (i : Task) (k : ℕ) : Type 0 where
  pub known : k < log.size
  pub same : core_of plan (log.job k) ≡ i.core
  pub low : i.rank < (task_of plan (log.job k)).rank

-- a lower job that was started before t has ended by the horizon
pub in_horizon : (plan : Plan) (log : Log) (i : Task) (t k : ℕ) → Lower plan log i k → (log.job k).start < t → (log.job k).end ≤ horizon plan log i t
in_horizon plan log i t k v b = grind (arith, greatest_point log.size (λ k. on (under_way plan log i t k) (log.job k).end) k)

-- the horizon is t, or the end of such a job
pub horizon_is : (plan : Plan) (log : Log) (i : Task) (t : ℕ)
    → (horizon plan log i t ≡ t) ⊎ ((x : ℕ) × Lower plan log i x × ((log.job x).start < t) × ((log.job x).end ≡ horizon plan log i t))
horizon_is plan log i t = grind (arith, greatest_reached log.size (λ k. on (under_way plan log i t k) (log.job k).end))

horizon_grows : (plan : Plan) (log : Log) (i : Task) (t u : ℕ) → t ≤ u → horizon plan log i t ≤ horizon plan log i u
horizon_grows plan log i t u l = grind (arith, horizon_is, in_horizon)

-- ready before t, and not ended by the horizon
pub record Left (plan : Plan) (log : Log) (i : Task) (t k : ℕ) : Type 0 where
  pub at_level : Level plan log i k
  pub before : (log.job k).ready < t
  pub after : horizon plan log i t < (log.job k).end

-- nothing of the level is left over at t, but what ends under a lower job that was started before t
abbrev pub Clear : Plan → Log → Task → ℕ → Type 0
Clear plan log i t = (k : ℕ) → Level plan log i k → (log.job k).ready < t → (log.job k).end ≤ horizon plan log i t

pub record Begins (plan : Plan) (log : Log) (i : Task) (p t0 : ℕ) : Type 0 where
  pub before : t0 ≤ p
  pub clear : Clear plan log i t0
  pub left : (u : ℕ) → t0 < u → u ≤ p → (k : ℕ) × Left plan log i u k

-- each k below the size is harmless at t, or left
harmless_or : (plan : Plan) (log : Log) (i : Task) (t k : ℕ)
    → (Level plan log i k → (log.job k).ready < t → (log.job k).end ≤ horizon plan log i t)
    ⊎ (k < log.size → Left plan log i t k)
harmless_or plan log i t k = grind arith

clear_or : (plan : Plan) (log : Log) (i : Task) (t : ℕ) → Clear plan log i t ⊎ ((k : ℕ) × Left plan log i t k)
clear_or plan log i t =
    let f = first_or log.size (λ k. Level plan log i k → (log.job k).ready < t → (log.job k).end ≤ horizon plan log i t) (λ k. k < log.size → Left plan log i t k) (harmless_or plan log i t) in
    grind arith

-- step 1
pub begins : (plan : Plan) (log : Log) (i : Task) (p : ℕ) → (t0 : ℕ) × Begins plan log i p t0
begins plan log i p =
    let g = greatest_moment (Clear plan log i) (λ t. (k : ℕ) × Left plan log i t k) (clear_or plan log i) (λ k v b. absurd (omega arith)) p in
    (g.0, record { before = g.1; clear = g.2; left = g.3 })

-- the blocker of a window that begins at t0: a lower job that was started before, and ends last; none has the number of no job
pub record Blocker (plan : Plan) (log : Log) (i : Task) (t0 x : ℕ) : Type 0 where
  pub covers : (t : ℕ) → t0 ≤ t → t < horizon plan log i t0 → Lower plan log i x × ((log.job x).start < t0) × (t < (log.job x).end)

pub blocker_of : (plan : Plan) (log : Log) (i : Task) (t0 : ℕ) → (x : ℕ) × Blocker plan log i t0 x
blocker_of plan log i t0 = let h = horizon_is plan log i t0 in grind arith

-- on the core at t: a job at the level that is ready in the window, or the blocker x
pub record Occupies (plan : Plan) (log : Log) (i : Task) (t0 x t j : ℕ) : Type 0 where
  pub known : j < log.size
  pub same : core_of plan (log.job j) ≡ i.core
  pub from : (log.job j).start ≤ t
  pub to : t < (log.job j).end
  pub kind : (((task_of plan (log.job j)).rank ≤ i.rank) × (t0 ≤ (log.job j).ready))
      ⊎ ((i.rank < (task_of plan (log.job j)).rank) × (j ≡ x))

module _ (plan : Plan) (group : ℕ → ℕ → Bool) (limits : ℕ → ℕ → Limit) (log : Log) (law : Lawful group limits plan log) (i : Task)
    (J : ℕ) (J_level : Level plan log i J) (t0 : ℕ) (B : Begins plan log i (log.job J).ready t0) where
  -- step 2: up to the end of J, some job at the level is ready and has not ended; what ends later than it is no lower job that has started
  pub record Pending (t q : ℕ) : Type 0 where
    pub at_level : Level plan log i q
    pub ready : (log.job q).ready ≤ t
    pub going : t < (log.job q).end

  pending : (t : ℕ) → t0 ≤ t → t < (log.job J).end → (q : ℕ) × Pending t q
  pending t l m =
      elim (cases_lt t (log.job J).ready) [
        | inr r ↦ (J, grind arith)
        | inl b ↦ let x = B.left (suc t) (omega arith) (omega arith) in (x.0, grind (arith, x.1))
      ]

  -- step 3: a lower job that starts in the window, and is under way at t, does so beside a job at the level that is under way at t
  beside : (j t : ℕ) → Lower plan log i j → t0 ≤ (log.job j).start → (log.job j).start ≤ t → t < (log.job j).end → t < (log.job J).end
      → (q : ℕ) × Level plan log i q × ((log.job q).start ≤ t) × (t < (log.job q).end)
  beside j t v l m e f =
      elim (cases_lt (log.job j).start (log.job J).ready) [
        | inr r ↦ (J, J_level, started J J_level r, f)
        | inl b ↦
            let x = B.left (suc (log.job j).start) (omega arith) (omega arith) in (
              x.0,
              x.1.at_level,
              started x.0 x.1.at_level (omega (arith, x.1.before)),
              omega (arith, x.1.after, in_horizon plan log i (suc (log.job j).start) j v (omega arith)),
            )
      ]
    where
      -- who is ready when a lower job starts has started
      started : (q : ℕ) → Level plan log i q → (log.job q).ready ≤ (log.job j).start → (log.job q).start ≤ t
      started q w r = grind arith

  module _ (x : ℕ) (X : Blocker plan log i t0 x) where
    -- who is at the level, and under way, occupies the core, or the blocker does
    level_or : (t : ℕ) → t0 ≤ t → (q : ℕ) → Level plan log i q → (log.job q).start ≤ t → t < (log.job q).end → (j : ℕ) × Occupies plan log i t0 x t j
    level_or t l q v s e =
        elim (cases_lt (log.job q).ready t0) [
          | inr r ↦ (q, grind (arith, v))
          | inl b ↦ (x, grind (arith, X.covers t l (omega (arith, B.clear q v b))))
        ]

    pub on_core : (t : ℕ) → t0 ≤ t → t < (log.job J).end → (j : ℕ) × Occupies plan log i t0 x t j
    on_core t l m =
        elim (cases_lt t (log.job q).start) [
          | inr s ↦ level_or t l q v s y.1.going
          | inl b ↦
              let z = law.busy q v.known t y.1.ready b in
              found z.0 z.1.known (z.1.same ∙ v.same) z.1.from z.1.to
        ]
      where
        y : (q : ℕ) × Pending t q
        y = pending t l m

        q : ℕ
        q = y.0

        v : Level plan log i q
        v = y.1.at_level

        found : (j : ℕ) → j < log.size → core_of plan (log.job j) ≡ i.core → (log.job j).start ≤ t → t < (log.job j).end → (j : ℕ) × Occupies plan log i t0 x t j
        found j known same from to =
            elim (cases_lt i.rank (task_of plan (log.job j)).rank) [
              | inr h ↦ level_or t l j (record { known = known; same = same; high = h }) from to
              | inl low ↦ elim (cases_lt (log.job j).start t0) [
                | inl b ↦
                    let d : Lower plan log i j = record { known = known; same = same; low = low } in
                    let w = X.covers t l (omega (arith, in_horizon plan log i t0 j d b)) in
                    (x, record { known = w.0.known; same = w.0.same; from = omega (arith, w.1); to = w.2; kind = inr (w.0.low, refl) })
                | inr late ↦
                    let w = beside j t (record { known = known; same = same; low = low }) late from to m in
                    level_or t l w.0 w.1 w.2 w.3
              ]
            ]

  -- step 4: something is left over at t0 + w
  pub left_over : (w : ℕ) → 1 ≤ w → (log.job J).ready + w < (log.job J).end
      → (q : ℕ) × Level plan log i q × (t0 ≤ (log.job q).ready) × ((log.job q).ready < t0 + w) × (t0 + w < (log.job q).end)
  left_over w some late =
      elim (cases_lt (log.job J).ready (t0 + w)) [
        | inl b ↦ (J, J_level, B.before, b, omega (arith, B.before))
        | inr r ↦
            let x = B.left (t0 + w) (omega arith) r in
            (x.0, x.1.at_level, grind (arith, x.1, B.clear x.0, horizon_grows plan log i t0 (t0 + w)), x.1.before, omega (arith, x.1.after))
      ]
