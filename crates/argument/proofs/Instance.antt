-- The bound of a plan: the general one at two turns a job, no delay, the deadline as reach, and a group for each core.
use Rattle.std.proofs.Common.{◌≡◌, ℕ, zero, suc, ◌+◌, ◌*◌, ◌<◌, ◌≤◌, Bool, not, eqb, Ok, refl, ap, subst, inl, inr, add-zero, arith}
use Rattle.std.proofs.lemmas.Bool.{cases_lt, cases_eq, cases_Bool, eqb-true, eqb-false, not_from_false}
use Rattle.tasks.specs.Limits.{Within, times, Limit}
use Rattle.tasks.specs.declared.task.Row.{Row}
use Rattle.tasks.specs.Rows.{cost, row_verdict}
use Rattle.argument.specs.Sums.{sum, on, any, greatest, ceil}
use Rattle.argument.specs.Plans.{Plan, SoundPlan, level, lower}
use Rattle.argument.specs.Demand as D
use Rattle.argument.specs.Demand.{WindowFor}
use Rattle.argument.specs.Logs as B
use Rattle.argument.specs.Theorems.{EveryJobEndsWithinItsWindow, OneJobAtATimeIsNotNeeded}
use Rattle.argument.specs.General as G
use Rattle.argument.proofs.Sums.{sum_zero, sum_le, sum_eq, sum_mul}
use Rattle.argument.proofs.Counts.{on_true}
use Rattle.argument.proofs.Exchange.{on_mono, by_key}
use Rattle.argument.proofs.Limits.{within_none, within_less}
use Rattle.argument.proofs.Shares.{choice_le_share}
use Rattle.argument.proofs.Bound.{bound}

below_two : (F : ℕ → Type 0) → F 0 → F 1 → (k : ℕ) → k < 2 → F k
below_two F h i k j = grind arith

abbrev to_task : Row → G.Task
to_task h = record {
  core = h.core;
  rank = h.rank;
  spacing = h.spacing;
  delay = 0;
  reach = h.deadline;
  cost = cost h;
  stays = 2;
  long = elim [ zero ↦ h.a | suc x ↦ h.r ];
}

abbrev to_plan : Plan → G.Plan
to_plan plan = record { size = plan.size; task = λ u. to_task (plan.row u) }

abbrev to_stay : B.Job → ℕ → G.Stay
to_stay k zero = record { joined = k.start; granted = k.a_granted; ended = k.a_end }
to_stay k (suc x) = record { joined = k.e_end; granted = k.r_granted; ended = k.end }

abbrev to_job : B.Job → G.Job
to_job k = record { task = k.task; release = k.release; ready = k.release; start = k.start; stays = 2; stay = to_stay k; end = k.end }

abbrev to_log : B.Log → G.Log
to_log log = record { size = log.size; job = λ k. to_job (log.job k) }

abbrev single : ℕ → ℕ → Bool
single g b = eqb b g

possible : (plan : Plan) (k : B.Job) → B.Possible plan k → G.Possible (to_task (B.row_of plan k)) (to_job k)
possible plan k p = grind arith

module _ (plan : Plan) (limits : ℕ → ℕ → Limit) (log : B.Log) (sound : SoundPlan plan) (keeps : B.KeepsAllBut B.one_at_a_time plan limits log) where
  abbrev core : ℕ → ℕ
  core k = B.core_of plan (log.job k)

  possibles : B.PossibleMoments plan log
  possibles = keeps B.possible_moments (λ e. grind arith)

  spaced : B.Spaced plan log
  spaced = keeps B.spaced_releases (λ e. grind arith)

  busy : B.NoIdling plan log
  busy = keeps B.no_idling (λ e. grind arith)

  right : B.RightChoice plan log
  right = keeps B.right_choice (λ e. grind arith)

  never_free : B.NeverFree plan log
  never_free = keeps B.never_free (λ e. grind arith)

  kept : B.LimitsKept plan limits log
  kept = keeps B.limits_kept (λ e. grind arith)

  carries : (k t : ℕ) (y : B.Turn) (j : ℕ) → B.Carried plan log k t y j → (j : ℕ) × (y : ℕ) × G.Carried (to_plan plan) (to_log log) (core k) t j y
  carries k t y j h = grind arith

  abbrev stay_of : B.Turn → B.Job → G.Stay
  stay_of x k = record { joined = B.joined x k; granted = B.granted x k; ended = B.ended x k }

  limited : (k : ℕ) → k < log.size → (g : ℕ) (x : B.Turn)
      → Within (limits (core k) g) (G.met single (to_plan plan) (to_log log) (core k) (stay_of x (log.job k)) g)
  limited k l g x =
      elim (cases_lt g plan.cores) [
        | inr none ↦ within_none (limits (core k) g) _ (sum_zero log.size (λ j. on (G.others single (core k) g (core j)) (0 + m B.A j + m B.R j)) (λ j n. let p = sound.placed (log.job j).task (possibles j n).known in grind arith))
        | inl there ↦ elim (cases_eq g (core k)) [
          | inl e ↦ within_none (limits (core k) g) _ (sum_zero log.size (λ j. on (G.others single (core k) g (core j)) (0 + m B.A j + m B.R j)) (λ j _. grind arith))
          | inr ne ↦ within_less (limits (core k) g) _ _ (kept x k l g there ne)
              (sum_le log.size (λ j. on (G.others single (core k) g (core j)) (0 + m B.A j + m B.R j)) (λ j. on (eqb (core j) g) (m B.A j + m B.R j)) (λ j _. grind arith))
        ]
      ]
    where
      m : B.Turn → ℕ → ℕ
      m y j = on (B.meets x (log.job k) y (log.job j)) 1

  lawful : G.Lawful single limits (to_plan plan) (to_log log)
  lawful = record {
    known = λ k l. (possibles k l).known;
    possible = λ k l. possible plan (log.job k) (possibles k l);
    spaced = spaced;
    busy = λ k l t a b. let z = busy k l t a b in (z.0, record { known = z.1.known; same = z.1.same; from = z.1.from; to = z.1.to });
    right = right;
    carried = λ k l. below_two (λ x. (t : ℕ) → (to_stay (log.job k) x).joined ≤ t → t < (to_stay (log.job k) x).granted → (j : ℕ) × (y : ℕ) × G.Carried (to_plan plan) (to_log log) (core k) t j y)
        (λ t a b. let z = never_free B.A k l t a b in carries k t z.0 z.1 z.2)
        (λ t a b. let z = never_free B.R k l t a b in carries k t z.0 z.1 z.2);
    limited = λ k l x m g. below_two (λ x. Within (limits (core k) g) (G.met single (to_plan plan) (to_log log) (core k) (to_stay (log.job k) x) g))
        (limited k l g B.A) (limited k l g B.R) x m;
  }

greatest_on : (n : ℕ) (p : ℕ → Bool) (c : ℕ) → greatest n (λ u. on (p u) c) ≡ on (any n p) c
greatest_on zero p c = refl
greatest_on (suc n) p c = grind (arith, greatest_on n p c)

module _ (plan : Plan) (limits : ℕ → ℕ → Limit) (sound : SoundPlan plan) (place w : ℕ) where
  abbrev i : Row
  i = plan.row place

  jobs_same : (h : Row) → G.jobs (to_task i) w (to_task h) ≡ D.jobs i w h
  jobs_same h = ap (λ z. on (level i h) (ceil z h.spacing)) (add-zero w)

  own_same : G.own (to_plan plan) (to_task i) w ≡ D.own plan i w
  own_same = grind arith

  turns_same : G.turns (to_plan plan) (to_task i) w ≡ D.turns plan i w
  turns_same = omega (
    arith,
    sum_mul plan.size 2 (λ u. G.jobs (to_task i) w (to_task (plan.row u))),
    sum_eq plan.size (λ u. G.jobs (to_task i) w (to_task (plan.row u))) (λ u. D.jobs i w (plan.row u)) (λ u _. jobs_same (plan.row u)),
    greatest_on plan.size (λ u. lower i (plan.row u)) 2,
  )

  module _ (X : ℕ → ℕ → ℕ) (ch : G.Choice single limits (to_plan plan) (to_task i) w X) where
    abbrev f : ℕ → ℕ
    f u = (plan.row u).a * X u 0 + (plan.row u).r * X u 1

    part : ℕ → ℕ → ℕ → ℕ
    part b x u = on (eqb (plan.row u).core b) (X u x)

    at_most : (u : ℕ) → u < plan.size → (x : ℕ) → x < 2 → X u x ≤ ceil (w + (plan.row u).deadline) (plan.row u).spacing
    at_most u l x m = grind arith

    choice : (b : ℕ) → (b ≡ i.core → ⊥) → D.Choice plan b w (times (D.turns plan i w) (limits i.core b)) (part b 0) (part b 1)
    unfolding part
    choice b ne = record {
      some_a = λ u l. on_mono (eqb (plan.row u).core b) _ _ (λ _. at_most u l 0 (omega arith));
      some_r = λ u l. on_mono (eqb (plan.row u).core b) _ _ (λ _. at_most u l 1 (omega arith));
      few = subst (λ z. Within (times z (limits i.core b)) (sum plan.size (λ u. part b 0 u + part b 1 u))) turns_same
          (within_less (times (G.turns (to_plan plan) (to_task i) w) (limits i.core b)) (sum plan.size (λ u. part b 0 u + part b 1 u))
          (sum plan.size (λ u. on (G.others single i.core b (plan.row u).core) (sum 2 (X u)))) (ch.few b)
          (sum_le plan.size (λ u. part b 0 u + part b 1 u) (λ u. on (G.others single i.core b (plan.row u).core) (sum 2 (X u))) (λ u _. inner u)));
    }
      where
        inner : (u : ℕ) → on (eqb (plan.row u).core b) (X u 0) + on (eqb (plan.row u).core b) (X u 1) ≤ on (G.others single i.core b (plan.row u).core) (0 + X u 0 + X u 1)
        inner u = grind (arith, ne)

    weigh : (p : Bool) (a x r y : ℕ) → on p (a * x + r * y) ≡ a * on p x + r * on p y
    weigh p a x r y = grind arith

    core_part : (b : ℕ) → b < plan.cores → sum plan.size (λ u. on (eqb (plan.row u).core b) (f u))
        ≤ on (not (eqb b i.core)) (D.share plan b w (times (D.turns plan i w) (limits i.core b)))
    unfolding part
    core_part b l =
        elim (cases_Bool (eqb b i.core)) [
          | inr n ↦ omega (
            arith,
            on_true _ (D.share plan b w (times (D.turns plan i w) (limits i.core b))) (not_from_false _ n),
            choice_le_share plan b w (times (D.turns plan i w) (limits i.core b)) (part b 0) (part b 1) (choice b (eqb-false _ _ n)),
            sum_eq plan.size (λ u. on (eqb (plan.row u).core b) (f u)) (λ u. (plan.row u).a * part b 0 u + (plan.row u).r * part b 1 u)
                (λ u _. weigh (eqb (plan.row u).core b) (plan.row u).a (X u 0) (plan.row u).r (X u 1)),
          )
          | inl e ↦ omega (arith, sum_zero plan.size (λ u. on (eqb (plan.row u).core b) (f u)) (none (eqb-true _ _ e)))
        ]
      where
        none : b ≡ i.core → (u : ℕ) → u < plan.size → on (eqb (plan.row u).core b) (f u) ≡ 0
        none same u m = grind (arith, ch.each u m 0, ch.each u m 1)

    rest : G.total (to_plan plan) X ≤ D.shares plan limits i w
    rest = omega (
      arith,
      sum_eq plan.size (λ u. 0 + (plan.row u).a * X u 0 + (plan.row u).r * X u 1) f (λ u _. omega arith),
      by_key plan.size plan.cores (λ u. (plan.row u).core) f sound.placed,
      sum_le plan.cores (λ b. sum plan.size (λ u. on (eqb (plan.row u).core b) (f u)))
          (λ b. on (not (eqb b i.core)) (D.share plan b w (times (D.turns plan i w) (limits i.core b)))) core_part,
    )

  window : WindowFor plan limits place w → G.WindowFor single limits (to_plan plan) (to_task i) w
  window v = record {
    some = v.some;
    in_reach = omega (arith, v.in_time);
    rest = D.shares plan limits i w;
    at_most = rest;
    covers = omega (arith, v.covers, own_same);
  }

-- a task comes again after one tick at the earliest
some_spacing : (row : Row) → row_verdict row ≡ Ok tt → 1 ≤ row.spacing
some_spacing row e = grind arith

pub overlap_or_not : OneJobAtATimeIsNotNeeded
overlap_or_not plan limits log windows sound covered keeps k l =
    bound single limits (to_plan plan) (to_log log) windows (λ u m. some_spacing (plan.row u) (sound.tasks u m))
    (λ u m. window plan limits sound u (windows u) (covered u m)) (lawful plan limits log sound keeps) k l

pub in_time : EveryJobEndsWithinItsWindow
in_time plan limits log windows sound covered keeps = overlap_or_not plan limits log windows sound covered (λ law _. keeps law)
