-- Plans, windows and logs that are written out can be checked by computing: each test below answers true only where the fact holds.
use Rattle.std.proofs.Common.{◌≡◌, ℕ, zero, suc, ◌+◌, ◌<◌, ◌≤◌, Bool, true, false, not, ◌&&◌, ◌||◌, eqb, ltb, leb, Ok, Err, Result, inl, inr, arith, Some, None}
use Rattle.std.proofs.lemmas.Bool.{and_parts, or_cases, ltb-true}
use Rattle.tasks.specs.Limits.{Within, Limit}
use Rattle.tasks.specs.Rows.{row_verdict}
use Rattle.tasks.specs.Refusals.{Told}
use Rattle.argument.specs.Sums.{any}
use Rattle.argument.specs.Plans.{Plan, SoundPlan}
use Rattle.argument.specs.Demand.{demand, WindowFor}
use Rattle.argument.specs.Logs.{Job, Log, Turn, A, R, joined, granted, ended, row_of, core_of, met, Possible, OnCore, Before, Carried, NeverFree, LimitsKept, Law, possible_moments, spaced_releases, one_at_a_time, no_idling, right_choice, never_free, limits_kept, Keeps, KeepsTheLaws, KeepsAllBut}
use Rattle.argument.specs.Theorems.{AllCovered}
use Rattle.argument.proofs.Exchange.{any_true}
use Rattle.argument.proofs.Numbered.{number, same_number}

-- every number below n passes
abbrev all : ℕ → (ℕ → Bool) → Bool
all zero test = true
all (suc n) test = all n test && test n

all_true : (n : ℕ) (test : ℕ → Bool) → all n test ≡ true → (k : ℕ) → k < n → test k ≡ true
all_true zero test e k l = grind arith
all_true (suc n) test e k l = grind (arith, all_true n test)

-- every pair of numbers below n passes
pairs_true : (n : ℕ) (test : ℕ → ℕ → Bool) → all n (λ j. all n (test j)) ≡ true → (j k : ℕ) → j < n → k < n → test j k ≡ true
pairs_true n test e j k a b = all_true _ _ (all_true _ _ e j a) k b

-- ---- the laws

abbrev possible : Plan → Job → Bool
possible plan k =
    ltb k.task plan.size && (leb k.release k.start && (leb k.start k.a_granted
    && (ltb k.a_granted k.a_end && (leb k.a_end (k.a_granted + (row_of plan k).a)
    && (ltb k.a_end k.e_end && (leb k.e_end (k.a_end + (row_of plan k).e)
    && (leb k.e_end k.r_granted && (ltb k.r_granted k.end && leb k.end (k.r_granted + (row_of plan k).r)))))))))

possible_is : (plan : Plan) (k : Job) → possible plan k ≡ true → Possible plan k
possible_is plan k e = grind arith

abbrev spaced : Plan → Log → ℕ → ℕ → Bool
spaced plan log j k =
    eqb j k || (not (eqb (log.job j).task (log.job k).task)
    || (leb ((log.job j).release + (row_of plan (log.job j)).spacing) (log.job k).release
    || leb ((log.job k).release + (row_of plan (log.job j)).spacing) (log.job j).release))

abbrev alone : Plan → Log → ℕ → ℕ → Bool
alone plan log j k =
    eqb j k || (not (eqb (core_of plan (log.job j)) (core_of plan (log.job k)))
    || (leb (log.job j).end (log.job k).start || leb (log.job k).end (log.job j).start))

abbrev on_core : Plan → Log → ℕ → ℕ → ℕ → Bool
on_core plan log k t j =
    eqb (core_of plan (log.job j)) (core_of plan (log.job k)) && (leb (log.job j).start t && ltb t (log.job j).end)

abbrev idles_not : Plan → Log → ℕ → Bool
idles_not plan log k = all (log.job k).start (λ t. ltb t (log.job k).release || any log.size (on_core plan log k t))

idles_not_is : (plan : Plan) (log : Log) (k : ℕ) → idles_not plan log k ≡ true
    → (t : ℕ) → (log.job k).release ≤ t → t < (log.job k).start → (j : ℕ) × OnCore plan log k t j
idles_not_is plan log k e t a b =
    let f = all_true _ _ e t b in
    let g = any_true log.size (on_core plan log k t) (grind arith) in (g.0, grind arith)

abbrev before : Plan → Job → Job → Bool
before plan j k = ltb (row_of plan j).rank (row_of plan k).rank || (eqb j.task k.task && leb j.release k.release)

-- the job j may be started when it was, as far as the job k is concerned
abbrev rightly : Plan → Log → ℕ → ℕ → Bool
rightly plan log j k =
    not (eqb (core_of plan (log.job j)) (core_of plan (log.job k)) && (leb (log.job k).release (log.job j).start && ltb (log.job j).start (log.job k).start))
    || before plan (log.job j) (log.job k)

rightly_is : (plan : Plan) (log : Log) (j k : ℕ) → rightly plan log j k ≡ true → core_of plan (log.job j) ≡ core_of plan (log.job k)
    → (log.job k).release ≤ (log.job j).start → (log.job j).start < (log.job k).start → Before plan (log.job j) (log.job k)
rightly_is plan log j k e same ready first = grind arith

abbrev carries : Plan → Log → ℕ → ℕ → Turn → ℕ → Bool
carries plan log k t turn j =
    not (eqb (core_of plan (log.job j)) (core_of plan (log.job k))) && (leb (granted turn (log.job j)) t && ltb t (ended turn (log.job j)))

carries_is : (plan : Plan) (log : Log) (k t : ℕ) (turn : Turn) (j : ℕ) → j < log.size → carries plan log k t turn j ≡ true → Carried plan log k t turn j
carries_is plan log k t turn j known e = grind arith

abbrev busy : Plan → Log → Turn → ℕ → Bool
busy plan log turn k = all (granted turn (log.job k))
    (λ t. ltb t (joined turn (log.job k)) || any log.size (λ j. carries plan log k t A j || carries plan log k t R j))

busy_is : (plan : Plan) (log : Log) (turn : Turn) (k : ℕ) → busy plan log turn k ≡ true
    → (t : ℕ) → joined turn (log.job k) ≤ t → t < granted turn (log.job k) → (turn' : Turn) × (j : ℕ) × Carried plan log k t turn' j
busy_is plan log turn k e t a b =
    let f = all_true _ _ e t b in
    let g = any_true log.size (λ j. carries plan log k t A j || carries plan log k t R j) (grind arith) in
    elim (or_cases _ _ g.2) [ inl h ↦ (A, g.0, carries_is plan log k t A g.0 g.1 h) | inr h ↦ (R, g.0, carries_is plan log k t R g.0 g.1 h) ]

abbrev within_limit : Limit → ℕ → Bool
within_limit (Some m) n = leb n m
within_limit None n = true

abbrev kept : Plan → (ℕ → ℕ → Limit) → Log → Turn → ℕ → Bool
kept plan limits log turn k = all plan.cores
    (λ core. eqb core (core_of plan (log.job k)) || within_limit (limits (core_of plan (log.job k)) core) (met plan log turn (log.job k) core))

kept_is : (plan : Plan) (limits : ℕ → ℕ → Limit) (log : Log) (turn : Turn) (k : ℕ) → kept plan limits log turn k ≡ true
    → (core : ℕ) → core < plan.cores → (core ≡ core_of plan (log.job k) → ⊥) → Within (limits (core_of plan (log.job k)) core) (met plan log turn (log.job k) core)
kept_is plan limits log turn k e core l ne = grind (arith, all_true _ _ e core l)

abbrev test : Plan → (ℕ → ℕ → Limit) → Log → Law → Bool
test plan limits log possible_moments = all log.size (λ k. possible plan (log.job k))
test plan limits log spaced_releases = all log.size (λ j. all log.size (spaced plan log j))
test plan limits log one_at_a_time = all log.size (λ j. all log.size (alone plan log j))
test plan limits log no_idling = all log.size (idles_not plan log)
test plan limits log right_choice = all log.size (λ j. all log.size (rightly plan log j))
test plan limits log never_free = all log.size (busy plan log A) && all log.size (busy plan log R)
test plan limits log limits_kept = all log.size (kept plan limits log A) && all log.size (kept plan limits log R)

never_free_is : (plan : Plan) (limits : ℕ → ℕ → Limit) (log : Log) → test plan limits log never_free ≡ true → NeverFree plan log
never_free_is plan limits log e A k l t a b =
    busy_is plan log A k (all_true _ _ (and_parts _ _ e).0 k l) t (omega arith) b
never_free_is plan limits log e R k l t a b =
    busy_is plan log R k (all_true _ _ (and_parts _ _ e).1 k l) t (omega arith) b

limits_kept_is : (plan : Plan) (limits : ℕ → ℕ → Limit) (log : Log) → test plan limits log limits_kept ≡ true → LimitsKept plan limits log
limits_kept_is plan limits log e A k l = kept_is plan limits log A k (all_true _ _ (and_parts _ _ e).0 k l)
limits_kept_is plan limits log e R k l = kept_is plan limits log R k (all_true _ _ (and_parts _ _ e).1 k l)

passed : (plan : Plan) (limits : ℕ → ℕ → Limit) (log : Log) (law : Law) → test plan limits log law ≡ true → Keeps plan limits log law
passed plan limits log possible_moments e = λ k l. possible_is plan (log.job k) (all_true _ _ e k l)
passed plan limits log spaced_releases e = λ j k a b ne same. let p = pairs_true _ _ e j k a b in grind arith
passed plan limits log one_at_a_time e = λ j k a b ne same. let p = pairs_true _ _ e j k a b in grind arith
passed plan limits log no_idling e = λ k l. idles_not_is plan log k (all_true _ _ e k l)
passed plan limits log right_choice e = λ j k a b. rightly_is plan log j k (pairs_true _ _ e j k a b)
passed plan limits log never_free e = never_free_is plan limits log e
passed plan limits log limits_kept e = limits_kept_is plan limits log e

-- ---- all of them, and all but one

abbrev every_law : (Law → Bool) → Bool
every_law f = f possible_moments && (f spaced_releases && (f one_at_a_time && (f no_idling && (f right_choice && (f never_free && f limits_kept)))))

every_law_true : (f : Law → Bool) → every_law f ≡ true → (law : Law) → f law ≡ true
every_law_true f h law = grind arith

pub keeps_the_laws : (plan : Plan) (limits : ℕ → ℕ → Limit) (log : Log) → every_law (test plan limits log) ≡ true → KeepsTheLaws plan limits log
keeps_the_laws plan limits log h = grind (arith, passed, every_law_true)

pub keeps_all_but : (exempt : Law) (plan : Plan) (limits : ℕ → ℕ → Limit) (log : Log)
    → every_law (λ law. eqb (number law) (number exempt) || test plan limits log law) ≡ true → KeepsAllBut exempt plan limits log
keeps_all_but exempt plan limits log e law other =
    let h = every_law_true (λ law. eqb (number law) (number exempt) || test plan limits log law) e law in
    passed plan limits log law (grind (arith, same_number law exempt))

-- ---- plans and windows

abbrev accepted : Result (Unit {0}) Told → Bool
accepted (Ok x) = true
accepted (Err e) = false

accepted_is : (r : Result (Unit {0}) Told) → accepted r ≡ true → r ≡ Ok tt
accepted_is r h = grind arith

abbrev apart : Plan → ℕ → ℕ → Bool
apart plan u v = not (eqb (plan.row u).core (plan.row v).core && eqb (plan.row u).rank (plan.row v).rank) || eqb u v

apart_is : (plan : Plan) (u v : ℕ) → apart plan u v ≡ true → (plan.row u).core ≡ (plan.row v).core → (plan.row u).rank ≡ (plan.row v).rank → u ≡ v
apart_is plan u v e a b = grind arith

abbrev sound : Plan → Bool
sound plan = all plan.size (λ u. accepted (row_verdict (plan.row u)))
    && (all plan.size (λ u. ltb (plan.row u).core plan.cores) && all plan.size (λ u. all plan.size (apart plan u)))

pub sound_plan : (plan : Plan) → sound plan ≡ true → SoundPlan plan
sound_plan plan e =
    let p = and_parts (all plan.size (λ u. accepted (row_verdict (plan.row u)))) (all plan.size (λ u. ltb (plan.row u).core plan.cores) && all plan.size (λ u. all plan.size (apart plan u))) e in
    let q = and_parts (all plan.size (λ u. ltb (plan.row u).core plan.cores)) (all plan.size (λ u. all plan.size (apart plan u))) p.1 in
    record {
      tasks = λ u l. accepted_is (row_verdict (plan.row u)) (all_true _ _ p.0 u l);
      placed = λ u l. ltb-true _ _ (all_true _ _ q.0 u l);
      ranks = λ u v a b. apart_is plan u v (pairs_true _ _ q.1 u v a b);
    }

abbrev window : Plan → (ℕ → ℕ → Limit) → ℕ → ℕ → Bool
window plan limits place w = leb 1 w && (leb w (plan.row place).deadline && leb (demand plan limits place w) w)

pub window_for : (plan : Plan) (limits : ℕ → ℕ → Limit) (place w : ℕ) → window plan limits place w ≡ true → WindowFor plan limits place w
window_for plan limits place w e = grind arith

pub all_covered : (plan : Plan) (limits : ℕ → ℕ → Limit) (windows : ℕ → ℕ) → all plan.size (λ place. window plan limits place (windows place)) ≡ true → AllCovered plan limits windows
all_covered plan limits windows e place l = window_for plan limits place (windows place) (all_true _ _ e place l)
