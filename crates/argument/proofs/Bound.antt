-- Step 8: the bound.
use Rattle.std.proofs.Common.{ℕ, ◌+◌, ◌<◌, ◌≤◌, Bool, inl, inr, arith}
use Rattle.std.proofs.lemmas.Bool.{cases_lt}
use Rattle.tasks.specs.Limits.{Limit}
use Rattle.argument.specs.General.{Task, Plan, Log, task_of, Lawful, WindowFor}
use Rattle.argument.specs.Theorems.{EveryJobEndsWithinItsWindowInGeneral}
use lib.WfN.{lt-wf_rel}
use mathlib.Core.WellFounded.{induction}
use mathlib.Core.WellFounded.InvImage
use Rattle.argument.proofs.BusyWindow.{Level, Begins, begins, Blocker, blocker_of, on_core, left_over}
use Rattle.argument.proofs.Cover.{owned, served, tick, cover}
use Rattle.argument.proofs.OwnTicks.{own_ticks}
use Rattle.argument.proofs.OtherCores.{remote_ticks}

module _ (group : ℕ → ℕ → Bool) (limits : ℕ → ℕ → Limit) (plan : Plan) (log : Log) (w : ℕ → ℕ) (spacings : (u : ℕ) → u < plan.size → 1 ≤ (plan.task u).spacing)
    (law : Lawful group limits plan log) (windows : (u : ℕ) → u < plan.size → WindowFor group limits plan (plan.task u) (w u)) where
  abbrev InTime : ℕ → Type 0
  InTime k = k < log.size → (log.job k).end ≤ (log.job k).ready + w (log.job k).task

  late : (j : ℕ) → j < log.size
      → ((k : ℕ) → (log.job k).ready + w (log.job k).task < (log.job j).ready + w (log.job j).task → InTime k)
      → (log.job j).ready + w (log.job j).task < (log.job j).end → ⊥
  late j known before over =
      omega (
        arith,
        cover plan log i t0 blocker W covered,
        own_ticks group limits plan log spacings law i t0 blocker W q.0 q.1 q.2 q.3 q.4,
        remote_ticks group limits plan log spacings law i t0 blocker W punctual win.rest win.at_most,
        win.covers,
      )
    where
      i : Task
      i = task_of plan (log.job j)

      W : ℕ
      W = w (log.job j).task

      win : WindowFor group limits plan i W
      win = windows (log.job j).task (law.known j known)

      level_j : Level plan log i j
      level_j = grind arith

      begun : (t0 : ℕ) × Begins plan log i (log.job j).ready t0
      begun = begins plan log i (log.job j).ready

      t0 : ℕ
      t0 = begun.0

      B : Begins plan log i (log.job j).ready t0
      B = begun.1

      chosen : (x : ℕ) × Blocker plan log i t0 x
      chosen = blocker_of plan log i t0

      blocker : ℕ
      blocker = chosen.0

      q : (q : ℕ) × Level plan log i q × (t0 ≤ (log.job q).ready) × ((log.job q).ready < t0 + W) × (t0 + W < (log.job q).end)
      q = left_over plan group limits log law i j level_j t0 B W win.some over

      covered : (t : ℕ) → t < W → 1 ≤ owned plan log i t0 blocker W (t0 + t) + served plan log i t0 blocker W (t0 + t)
      covered t l =
          let o = on_core plan group limits log law i j level_j t0 B blocker chosen.1 (t0 + t) (omega arith) (omega (arith, B.before)) in
          tick group limits plan log law i t0 blocker W (t0 + t) (omega arith) (omega arith) o.0 o.1

      punctual : (k : ℕ) → k < log.size → (log.job k).release + (task_of plan (log.job k)).reach ≤ t0 → (log.job k).end ≤ t0
      punctual k l early = grind arith

  pub in_time : (k : ℕ) → InTime k
  in_time k = induction (InvImage.wf (λ k. (log.job k).ready + w (log.job k).task) lt-wf_rel.wf) {C = InTime} k (λ j before known.
      elim (cases_lt ((log.job j).ready + w (log.job j).task) (log.job j).end) [
        | inl over ↦ absurd (late j known before over)
        | inr done ↦ done
      ])

pub bound : EveryJobEndsWithinItsWindowInGeneral
bound group limits plan log w spacings windows law k l = in_time group limits plan log w spacings law windows k l
