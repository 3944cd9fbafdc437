-- Step 5: each tick of the window is an own tick of a job that counts, or a tick of a service that holds one up.
use Rattle.std.proofs.Common.{◌≡◌, ℕ, zero, suc, ◌+◌, ◌-◌, ◌<◌, ◌≤◌, min, Bool, true, not, ◌&&◌, ◌||◌, eqb, ltb, ◌⊎◌, sym, ◌∙◌, arith}
use Rattle.std.proofs.lemmas.Bool.{and_from, lt-ltb, le-ltb, cond-true, cond-false}
use Rattle.tasks.specs.Limits.{Limit}
use Rattle.argument.specs.Sums.{sum, on, any}
use Rattle.argument.specs.General.{Task, Plan, Job, Log, Stay, task_of, core_of, joins, meets, level, lower, Carried, Lawful}
use Rattle.argument.proofs.Sums.{sum_le, sum_eq, sum_add, sum_swap, sum_point, sum_same}
use Rattle.argument.proofs.Counts.{within, on_true, within_from, clip}
use Rattle.argument.proofs.BusyWindow.{Occupies}
use Rattle.argument.proofs.Exchange.{on_mono, sum_on, any_true, any_from}

-- a job at i's level that is ready in [t0, t0 + w)
abbrev pub inside : Plan → Log → Task → ℕ → ℕ → ℕ → Bool
inside plan log i t0 w k = level i (task_of plan (log.job k)) && within t0 (t0 + w) (log.job k).ready

-- the blocker, a lower job
abbrev pub blocks : Plan → Log → Task → ℕ → ℕ → Bool
blocks plan log i blocker k = eqb k blocker && lower i (task_of plan (log.job k))

abbrev pub counts : Plan → Log → Task → ℕ → ℕ → ℕ → ℕ → Bool
counts plan log i t0 blocker w k = inside plan log i t0 w k || blocks plan log i blocker k

-- the stay meets a wait of a job that counts
abbrev pub delays : Plan → Log → Task → ℕ → ℕ → ℕ → Stay → Bool
delays plan log i t0 blocker w s = any log.size (λ j. counts plan log i t0 blocker w j && any (log.job j).stays (λ x. meets ((log.job j).stay x) s))

-- turn y of job k is of another core, meets the window, and meets a wait of a job that counts
abbrev pub holds : Plan → Log → Task → ℕ → ℕ → ℕ → ℕ → ℕ → Bool
holds plan log i t0 blocker w k y =
    not (eqb (core_of plan (log.job k)) i.core)
    && ((ltb ((log.job k).stay y).granted (t0 + w) && ltb t0 ((log.job k).stay y).ended)
    && delays plan log i t0 blocker w ((log.job k).stay y))

abbrev pub own_at : Job → ℕ → ℕ
own_at k t = on (within k.start (joins k 0) t) 1 + sum k.stays (λ x. on (within (k.stay x).granted (joins k (suc x)) t) 1)

abbrev pub service_at : Stay → ℕ → ℕ
service_at s t = on (within s.granted s.ended t) 1

pub record Inside (plan : Plan) (log : Log) (i : Task) (t0 w k : ℕ) : Type 0 where
  pub same : core_of plan (log.job k) ≡ i.core
  pub high : (task_of plan (log.job k)).rank ≤ i.rank
  pub from : t0 ≤ (log.job k).ready
  pub to : (log.job k).ready < t0 + w

pub record Holds (plan : Plan) (log : Log) (i : Task) (t0 blocker w k y j x : ℕ) : Type 0 where
  pub other : core_of plan (log.job k) ≡ i.core → ⊥
  pub from : ((log.job k).stay y).granted < t0 + w
  pub to : t0 < ((log.job k).stay y).ended
  pub known : j < log.size
  pub counted : counts plan log i t0 blocker w j ≡ true
  pub turn : x < (log.job j).stays
  pub met : meets ((log.job j).stay x) ((log.job k).stay y) ≡ true

pub inside_from : (plan : Plan) (log : Log) (i : Task) (t0 w k : ℕ) → Inside plan log i t0 w k → inside plan log i t0 w k ≡ true
inside_from plan log i t0 w k x = grind arith

pub counts_same : (plan : Plan) (log : Log) (i : Task) (t0 blocker w k : ℕ) → counts plan log i t0 blocker w k ≡ true → core_of plan (log.job k) ≡ i.core
counts_same plan log i t0 blocker w k e = grind arith

pub holds_parts : (plan : Plan) (log : Log) (i : Task) (t0 blocker w k y : ℕ) → holds plan log i t0 blocker w k y ≡ true → (j : ℕ) × (x : ℕ) × Holds plan log i t0 blocker w k y j x
holds_parts plan log i t0 blocker w k y e =
    let s = (log.job k).stay y in
    let f = any_true log.size (λ j. counts plan log i t0 blocker w j && any (log.job j).stays (λ x. meets ((log.job j).stay x) s)) (grind arith) in
    let g = any_true (log.job f.0).stays (λ x. meets ((log.job f.0).stay x) s) (grind arith) in
    (f.0, g.0, grind arith)

pub holds_from : (plan : Plan) (log : Log) (i : Task) (t0 blocker w k y j x : ℕ) → Holds plan log i t0 blocker w k y j x → holds plan log i t0 blocker w k y ≡ true
holds_from plan log i t0 blocker w k y j x h =
    let s = (log.job k).stay y in
    let f = any_from (log.job j).stays (λ x. meets ((log.job j).stay x) s) x h.turn h.met in
    grind (arith, any_from log.size (λ j. counts plan log i t0 blocker w j && any (log.job j).stays (λ x. meets ((log.job j).stay x) s)) j)

-- what counts at the tick t: own ticks, and ticks of services
abbrev pub owned : Plan → Log → Task → ℕ → ℕ → ℕ → ℕ → ℕ
owned plan log i t0 blocker w t = sum log.size (λ k. on (counts plan log i t0 blocker w k) (own_at (log.job k) t))

abbrev pub served : Plan → Log → Task → ℕ → ℕ → ℕ → ℕ → ℕ
served plan log i t0 blocker w t = sum log.size (λ k. sum (log.job k).stays (λ y. on (holds plan log i t0 blocker w k y) (service_at ((log.job k).stay y) t)))

pub joins_turn : (k : Job) (x : ℕ) → x < k.stays → joins k x ≡ (k.stay x).joined
joins_turn k x l = cond-true (ltb x k.stays) (k.stay x).joined k.end (lt-ltb _ _ l)

pub joins_end : (k : Job) → joins k k.stays ≡ k.end
joins_end k = cond-false (ltb k.stays k.stays) (k.stay k.stays).joined k.end (le-ltb k.stays k.stays (omega arith))

-- a tick of a job is its own or in a wait
abbrev pub Waits : Job → ℕ → ℕ → Type 0
Waits k t x = (x < k.stays) × ((k.stay x).joined ≤ t) × (t < (k.stay x).granted)

own_turn : (k : Job) (t x : ℕ) → x < k.stays → (k.stay x).granted ≤ t → t < joins k (suc x) → 1 ≤ own_at k t
own_turn k t x l a b = grind (arith, sum_point k.stays (λ x. on (within (k.stay x).granted (joins k (suc x)) t) 1) x l)

up_to : (k : Job) (t : ℕ) → k.start ≤ t → (m : ℕ) → m ≤ k.stays → t < joins k m → (1 ≤ own_at k t) ⊎ ((x : ℕ) × Waits k t x)
up_to k t a zero l b = grind arith
up_to k t a (suc m) l b = grind (arith, up_to k t a m, own_turn k t m)

pub own_or_waits : (k : Job) (t : ℕ) → k.start ≤ t → t < k.end → (1 ≤ own_at k t) ⊎ ((x : ℕ) × Waits k t x)
own_or_waits k t a b = grind (arith, up_to k t a k.stays, joins_end k)

module _ (group : ℕ → ℕ → Bool) (limits : ℕ → ℕ → Limit) (plan : Plan) (log : Log) (law : Lawful group limits plan log) (i : Task) (t0 blocker w : ℕ) where
  -- who is on the core at a tick of the window counts
  counted : (t : ℕ) → t0 ≤ t → t < t0 + w → (j : ℕ) → Occupies plan log i t0 blocker t j → counts plan log i t0 blocker w j ≡ true
  counted t l m j o = grind arith

  waiting : (t : ℕ) → t0 ≤ t → t < t0 + w → (j : ℕ) → j < log.size → counts plan log i t0 blocker w j ≡ true → (x : ℕ) → Waits (log.job j) t x → 1 ≤ served plan log i t0 blocker w t
  waiting t l m j known c x v =
      omega (
        arith,
        sum_point log.size (λ k. sum (log.job k).stays (λ y. on (holds plan log i t0 blocker w k y) (service_at ((log.job k).stay y) t))) k z.known,
        sum_point (log.job k).stays (λ y. on (holds plan log i t0 blocker w k y) (service_at ((log.job k).stay y) t)) y z.turn,
        on_true _ (service_at s t) held,
        on_true _ 1 (within_from s.granted s.ended t z.from z.to),
      )
    where
      f : (k : ℕ) × (y : ℕ) × Carried plan log (core_of plan (log.job j)) t k y
      f = law.carried j known x v.0 t v.1 v.2

      k : ℕ
      k = f.0

      y : ℕ
      y = f.1

      z : Carried plan log (core_of plan (log.job j)) t k y
      z = f.2

      s : Stay
      s = (log.job k).stay y

      met : meets ((log.job j).stay x) s ≡ true
      met = and_from (ltb s.granted ((log.job j).stay x).granted) (ltb ((log.job j).stay x).joined s.ended)
          (lt-ltb s.granted ((log.job j).stay x).granted (omega (arith, z.from, v.2))) (lt-ltb ((log.job j).stay x).joined s.ended (omega (arith, z.to, v.1)))

      held : holds plan log i t0 blocker w k y ≡ true
      held = holds_from plan log i t0 blocker w k y j x (record {
        other = λ e. z.other (e ∙ sym (counts_same plan log i t0 blocker w j c));
        from = omega (arith, z.from);
        to = omega (arith, z.to);
        known = known;
        counted = c;
        turn = v.0;
        met = met;
      })

  pub tick : (t : ℕ) → t0 ≤ t → t < t0 + w → (j : ℕ) → Occupies plan log i t0 blocker t j → 1 ≤ owned plan log i t0 blocker w t + served plan log i t0 blocker w t
  tick t l m j o = grind (arith, counted t l m j o, own_or_waits (log.job j) t, waiting t l m j, sum_point log.size (λ k. on (counts plan log i t0 blocker w k) (own_at (log.job k) t)) j)

-- the own ticks of a job in the window
abbrev pub own_in : ℕ → ℕ → Job → ℕ
own_in t0 w k = sum w (λ t. own_at k (t0 + t))

abbrev pub clipped : ℕ → Job → ℕ → ℕ
clipped t k x = min (joins k (suc x)) t - (k.stay x).granted

pub own_in_le : (t0 w : ℕ) (k : Job) → own_in t0 w k ≤ (min (joins k 0) (t0 + w) - k.start) + sum k.stays (clipped (t0 + w) k)
own_in_le t0 w k = grind (
  arith,
  sum_add w (λ t. on (within k.start (joins k 0) (t0 + t)) 1) (λ t. sum k.stays (λ x. on (within (k.stay x).granted (joins k (suc x)) (t0 + t)) 1)),
  sum_swap w k.stays (λ t x. on (within (k.stay x).granted (joins k (suc x)) (t0 + t)) 1),
  sum_le k.stays (λ x. sum w (λ t. on (within (k.stay x).granted (joins k (suc x)) (t0 + t)) 1)) (clipped (t0 + w) k),
  clip w t0,
)

abbrev pub len : Stay → ℕ
len s = s.ended - s.granted

pub cover : (plan : Plan) (log : Log) (i : Task) (t0 blocker w : ℕ) → ((t : ℕ) → t < w → 1 ≤ owned plan log i t0 blocker w (t0 + t) + served plan log i t0 blocker w (t0 + t))
    → w ≤ sum log.size (λ k. on (counts plan log i t0 blocker w k) (own_in t0 w (log.job k)))
    + sum log.size (λ k. sum (log.job k).stays (λ y. on (holds plan log i t0 blocker w k y) (len ((log.job k).stay y))))
cover plan log i t0 blocker w each =
    omega (
      arith,
      sum_same w 1,
      sum_le w (λ _. 1) (λ t. owned plan log i t0 blocker w (t0 + t) + served plan log i t0 blocker w (t0 + t)) each,
      sum_add w (λ t. owned plan log i t0 blocker w (t0 + t)) (λ t. served plan log i t0 blocker w (t0 + t)),
      sum_swap w n (λ t k. on (c k) (own_at (log.job k) (t0 + t))),
      sum_eq n (λ k. sum w (λ t. on (c k) (own_at (log.job k) (t0 + t)))) (λ k. on (c k) (own_in t0 w (log.job k))) (λ k l. sum_on w (c k) (λ t. own_at (log.job k) (t0 + t))),
      sum_swap w n (λ t k. sum (log.job k).stays (λ y. on (h k y) (service_at ((log.job k).stay y) (t0 + t)))),
      sum_le n (λ k. sum w (λ t. sum (log.job k).stays (λ y. on (h k y) (service_at ((log.job k).stay y) (t0 + t)))))
          (λ k. sum (log.job k).stays (λ y. on (h k y) (len ((log.job k).stay y)))) (λ k l. service k),
    )
  where
    n : ℕ
    n = log.size

    c : ℕ → Bool
    c k = counts plan log i t0 blocker w k

    h : ℕ → ℕ → Bool
    h k y = holds plan log i t0 blocker w k y

    service : (k : ℕ) → sum w (λ t. sum (log.job k).stays (λ y. on (h k y) (service_at ((log.job k).stay y) (t0 + t)))) ≤ sum (log.job k).stays (λ y. on (h k y) (len ((log.job k).stay y)))
    service k = omega (
      arith,
      sum_swap w (log.job k).stays (λ t y. on (h k y) (service_at ((log.job k).stay y) (t0 + t))),
      sum_le (log.job k).stays (λ y. sum w (λ t. on (h k y) (service_at ((log.job k).stay y) (t0 + t)))) (λ y. on (h k y) (len ((log.job k).stay y)))
          (λ y _. omega (
            arith,
            sum_on w (h k y) (λ t. service_at ((log.job k).stay y) (t0 + t)),
            on_mono (h k y) (sum w (λ t. service_at ((log.job k).stay y) (t0 + t))) (len ((log.job k).stay y))
                (λ _. omega (arith, clip w t0 ((log.job k).stay y).granted ((log.job k).stay y).ended)),
          )),
    )
