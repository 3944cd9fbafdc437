-- From moment to moment.
use Rattle.std.proofs.Common.{◌≡◌, ◌==◌, cond, ℕ, suc, ◌+◌, ◌*◌, ◌^◌, ◌<◌, ◌≤◌, ◌⊎◌, List, length, get_or, Some, None, Option, sym, refl, ap, ◌∙◌, subst, inl, inr, arith}
use Rattle.std.proofs.lemmas.Bool.{cases_eq, cases_lt, eqb-true, lt-ltb, le-ltb}
use Rattle.argument.specs.Plans.{Plan, SoundPlan}
use Rattle.bus.specs.Turns.{Idle as Still}
use Rattle.bus.specs.Means.{Means, Laws}
use Rattle.bus.specs.Courses.{Course}
use Rattle.bus.proofs.Courses.{keeps_rule}
use Rattle.bridge.specs.Scripts.{Script, LawfulScript, core_at}
use Rattle.bridge.specs.Stages as Stages
use Rattle.bridge.specs.States.{State, job_of, begun, blank, Complete}
use Rattle.bridge.specs.Moments.{finishes, acts, moment}
use Rattle.bridge.specs.Runs.{run, at_moment, grants_of}
use Rattle.bridge.specs.Promises.{AllowedRun, Quiet}
use Rattle.bridge.proofs.Allowed.{Allowed, allowed}
use Rattle.bridge.proofs.Kept.{Keeps, keeps}
use Rattle.bridge.proofs.Sums.{sum_most}
use Rattle.bridge.proofs.Cells.{phase}
use Rattle.bridge.proofs.Moves.{Inv, Good}
use Rattle.bridge.proofs.Due.{due, for_release, for_a, for_e, for_r, due_asks, due_a, due_e, due_r}
use Rattle.bridge.proofs.Steps.{Settled, settled_moment}
use Rattle.bridge.proofs.Left.{left, left_0}
use Rattle.bridge.proofs.Onward.{After, after_moment}
use Rattle.bridge.proofs.Ticks.{core_below, due_later, good_run}
use Rattle.bridge.proofs.Ending.{AllOver, complete_from, total_left, ended, claim}
use Rattle.bridge.proofs.Jumps.{time_may_jump}
use Rattle.bridge.proofs.Single.{many}
use Rattle.runs.specs.declared.rows.Job.{Job}
use Rattle.runs.specs.declared.rows.LogRow.{LogRow}
use Rattle.runs.specs.declared.ready.Ready.{Ready}
use Rattle.runs.specs.declared.stage.Turn.TheVariants.{First, Last}
use Rattle.runs.specs.declared.stage.Stage.{Stage}
use Rattle.runs.specs.declared.stage.Stage.TheVariants.{Idle, Waiting, A, E, R}
use Rattle.runs.specs.Machine.{job, number, none, due_of}
use Rattle.runs.specs.Pool.{Pool}
use Rattle.runs.specs.Soonest.{release_of}
use Rattle.runs.specs.Shown.{script_of, no_job, shown, Fetched, Shows, At, Granting, Ran, AllReleased, Short, after}
use Rattle.runs.proofs.Soon.{Least, Nothing}
use Rattle.runs.proofs.Extending.{Extended, extended}

abbrev pub most : ℕ
most = 1024 * (2 ^ 40 + 30000000)

-- a phase that goes on has a job, and ends when the job's row says
due_job : (log : List LogRow) (s : Stage) (t : ℕ) → due_of log s ≡ Some t
    → (k : ℕ) × (job s ≡ Some k) × (((number s ≡ 2) × ((get_or log k none).a_end ≡ t)) ⊎ (((number s ≡ 3) × ((get_or log k none).e_end ≡ t)) ⊎ ((number s ≡ 5) × ((get_or log k none).end ≡ t))))
due_job log Idle t d = absurd (cc)
due_job log (Waiting w j) t d = absurd (cc)
due_job log (A j) t d = (j, refl, inl (refl, cc))
due_job log (E j) t d = (j, refl, inr (inl (refl, cc)))
due_job log (R j) t d = (j, refl, inr (inr (refl, cc)))

-- the end that a row has for a phase, by its number
abbrev end_by : ℕ → LogRow → Option ℕ
end_by n r = cond (n == 2) (Some r.a_end) (cond (n == 3) (Some r.e_end) (cond (n == 5) (Some r.end) None))

due_at : (log : List LogRow) (s : Stage) (k n : ℕ) → job s ≡ Some k → number s ≡ n → due_of log s ≡ end_by n (get_or log k none)
due_at log Idle k n e f = rw (sym f) refl
due_at log (Waiting First j) k n e f = rw (sym f) refl
due_at log (Waiting Last j) k n e f = rw (sym f) refl
due_at log (A j) k n e f = let u : j ≡ k = cc in rw (sym f, u) refl
due_at log (E j) k n e f = let u : j ≡ k = cc in rw (sym f, u) refl
due_at log (R j) k n e f = let u : j ≡ k = cc in rw (sym f, u) refl

left_most : (J : List Job) → Short J → ((k : ℕ) → k < length J → (get_or J k no_job).release ≤ 2 ^ 40) → length J ≤ 1024 → total_left (script_of J) begun ≤ most
left_most J short early few =
    let s = sum_most (length J) (2 ^ 40 + 30000000) (λ k. left 0 ((script_of J).row k) blank)
    (λ k l. let w = short k l in omega (arith, left_0 0 ((script_of J).row k) blank refl, early k l, w.0, w.1, w.2)) in
    omega (arith, s)

abbrev pub pool : List Ready → ℕ → Pool
pool ready upto = record { ready = ready; upto = upto }

-- before the moment `time`
pub record Driven {X : Type 0} (B : Means X) (P : Plan) (J : List Job) (x : X) (time upto : ℕ) (stages : List Stage) (ready : List Ready) (log : List LogRow) (y : X) : Type 0 where
  pub choices : List ℕ
  pub count : length choices ≡ many P (script_of J) choices time
  pub at : At B P J x y time stages (pool ready upto) log (run P (script_of J) choices time)
  pub early : time ≤ most

-- after its four steps
pub record Moved {X : Type 0} (B : Means X) (P : Plan) (J : List Job) (x : X) (time upto : ℕ) (stages : List Stage) (ready : List Ready) (log : List LogRow) (y : X) : Type 0 where
  pub sound : SoundPlan P
  pub lawful : LawfulScript P (script_of J)
  pub fetched : (k : ℕ) → k < length J → Fetched P J k
  pub stood : B.stands x
  pub ports : (B.meaning x).ports ≡ P.cores
  pub idle : Still (B.meaning x)
  pub cores : length stages ≡ P.cores
  pub choices : List ℕ
  pub count : length choices ≡ many P (script_of J) choices time
  pub granting : Granting B P J x y time stages (pool ready upto) log (acts P (script_of J) P.cores (finishes P.cores (run P (script_of J) choices time)))
  pub released : AllReleased J time upto

module _ {X : Type 0} {B : Means X} (laws : Laws B) {P : Plan} {J : List Job} {x : X} {time upto : ℕ} {stages : List Stage} {ready : List Ready} {log : List LogRow} {y : X}
    (moved : Moved B P J x time upto stages ready log y) where
  abbrev Z : Script
  Z = script_of J

  abbrev S : State
  S = run P Z moved.choices time

  abbrev T : State
  T = moment P Z moved.granting.port S

  ok : Allowed P Z
  ok = allowed P Z moved.lawful

  rule : Keeps (B.meaning x) T.events (B.meaning y)
  rule = keeps (keeps_rule B laws x T.events y moved.stood moved.granting.course).0

  good : Good P Z ok (B.meaning x) S
  good = good_run P Z moved.sound ok (B.meaning x) moved.ports moved.idle moved.choices time

  settled : Settled P Z moved.sound ok (B.meaning x) T
  settled = settled_moment P Z moved.sound ok (B.meaning x) moved.granting.port S good

  inv : Inv P Z (B.meaning x).limit T (B.meaning y)
  inv = settled.fine (B.meaning y) rule

  past : After P Z moved.sound ok (B.meaning x) S T
  past = after_moment P Z moved.sound ok (B.meaning x) moved.granting.port S good (B.meaning y) rule

  here : T.now ≡ time
  here = sym moved.granting.shows.now

  -- the core of a job that goes on, and its stage
  module _ (k : ℕ) (l : k < length J) (a : 1 ≤ phase (T.cell k)) (b : phase (T.cell k) ≤ 5) where
    abbrev c : ℕ
    c = core_at P Z k

    low : c < length stages
    low = omega (arith, core_below P Z moved.sound ok (B.meaning x) k l, moved.cores)

    holds : T.has c ≡ Some k
    holds = inv.cores.held k l a b

    has_job : job (get_or stages c Idle) ≡ Some k
    has_job = moved.granting.shows.has c low ∙ holds

    has_number : number (get_or stages c Idle) ≡ phase (T.cell k)
    has_number = sym (moved.granting.shows.phase c k low holds)

  released_row : (k : ℕ) → k < length J → T.now < (Z.row k).release → upto ≤ k
  released_row k l h = elim (cases_lt k upto) [ inr u ↦ u | inl u ↦ absurd (omega (arith, moved.granting.shows.pooled.before k u)) ]

  -- nothing is to come
  module _ (h : Nothing J upto log stages) where
    none_due : (k : ℕ) → k < length J → due T.now (Z.row k).release (T.cell k) ≡ None
    none_due k l = go (due T.now (Z.row k).release (T.cell k)) refl
      where
        no_end : (t : ℕ) → (c : ℕ) → c < length stages → due_of log (get_or stages c Idle) ≡ Some t → ⊥
        no_end t c l e = h.ends c t l e

        no_row : upto ≤ k → ⊥
        no_row u = h.release (get_or J upto no_job).release (rw (lt-ltb upto (length J) (omega arith)) refl)

        go : (o : Option ℕ) → due T.now (Z.row k).release (T.cell k) ≡ o → o ≡ None
        go None e = refl
        go (Some t) e = elim (due_asks T.now (Z.row k).release (T.cell k) t e) [
          | for_release p m u ↦ absurd (no_row (released_row k l m))
          | for_a p u ↦ absurd (no_end _ (c k l (omega arith) (omega arith)) (low k l (omega arith) (omega arith)) (due_at log _ k 2 (has_job k l (omega arith) (omega arith)) (has_number k l (omega arith) (omega arith) ∙ p)))
          | for_e p u ↦ absurd (no_end _ (c k l (omega arith) (omega arith)) (low k l (omega arith) (omega arith)) (due_at log _ k 3 (has_job k l (omega arith) (omega arith)) (has_number k l (omega arith) (omega arith) ∙ p)))
          | for_r p u ↦ absurd (no_end _ (c k l (omega arith) (omega arith)) (low k l (omega arith) (omega arith)) (due_at log _ k 5 (has_job k l (omega arith) (omega arith)) (has_number k l (omega arith) (omega arith) ∙ p)))
        ]

    pub driven_over : Ran B P Z x y log
    driven_over =
        let w = extended P Z moved.choices time moved.granting.port moved.count in
        let e = w.1.next in
        let whole = complete_from Z T (ended P Z moved.sound ok (B.meaning x) T settled (B.meaning y) rule none_due) in
        record {
          choices = w.0;
          n = suc time;
          course = subst (λ (U : State). Course B x U.events y) (sym e) moved.granting.course;
          whole = subst (Complete Z) (sym e) whole;
          rows = λ k l. subst (λ (U : State). get_or log k none ≡ shown P (job_of Z k (U.cell k))) (sym e) (moved.granting.shows.row k l);
        }

  -- something is due at t
  module _ (t : ℕ) (h : Least J upto log stages t) where
    -- who asks for t
    asker : (k : ℕ) × (k < length J) × (due T.now (Z.row k).release (T.cell k) ≡ Some t)
    asker = elim h.found [
      | inl e ↦ (
          let l : upto < length J = elim (cases_lt upto (length J)) [ inl u ↦ u | inr u ↦ absurd (none_there u e) ] in
          let f : (get_or J upto no_job).release ≡ t = (let u : release_of J upto ≡ Some (get_or J upto no_job).release = rw (lt-ltb upto (length J) l) refl in cc) in
          let p : phase (T.cell upto) ≡ 0 = eqb-true (phase (T.cell upto)) 0 (moved.granting.shows.pooled.later upto (omega arith) l) in
          (upto, l, rw (p, lt-ltb T.now (get_or J upto no_job).release (omega (arith, here, moved.released upto (omega arith) l))) (ap Some f)))
      | inr e ↦ (
          let c = e.0 in
          let j = due_job log (get_or stages c Idle) t e.2 in
          let k = j.0 in
          let holds : T.has c ≡ Some k = sym (moved.granting.shows.has c e.1) ∙ j.1 in
          let l = (inv.cores.holds c k holds).known in
          let n = moved.granting.shows.phase c k e.1 holds in
          let r = moved.granting.shows.row k l in (
            k,
            l,
            elim j.2 [
              | inl u ↦ due_a T.now (Z.row k).release (T.cell k) (n ∙ u.0) ∙ ap Some (sym (ap (λ (z : LogRow). z.a_end) r) ∙ u.1)
              | inr v ↦ elim v [
                | inl u ↦ due_e T.now (Z.row k).release (T.cell k) (n ∙ u.0) ∙ ap Some (sym (ap (λ (z : LogRow). z.e_end) r) ∙ u.1)
                | inr u ↦ due_r T.now (Z.row k).release (T.cell k) (n ∙ u.0) ∙ ap Some (sym (ap (λ (z : LogRow). z.end) r) ∙ u.1)
              ]
            ],
          ))
    ]
      where
        none_there : length J ≤ upto → release_of J upto ≡ Some t → ⊥
        none_there u e = let v : release_of J upto ≡ None = rw (le-ltb upto (length J) u) refl in cc

    pub later : time < t
    later = omega (arith, here, due_later P Z moved.sound ok (B.meaning x) S T past (B.meaning y) inv asker.0 t asker.1 asker.2)

    row_later : (k : ℕ) → upto ≤ k → k < length J → t ≤ (get_or J k no_job).release
    row_later k u l =
        let m : upto < length J = omega arith in
        let f : release_of J upto ≡ Some (get_or J upto no_job).release = rw (lt-ltb upto (length J) m) refl in
        let w = h.release (get_or J upto no_job).release f in
        elim (cases_eq k upto) [
          | inl e ↦ omega (arith, w, ap (λ i. (get_or J i no_job).release) e)
          | inr ne ↦ omega (arith, w, (moved.lawful k l).rising upto (omega arith))
        ]

    quiet : (s : ℕ) → suc time ≤ s → s < t → Quiet Z (at_moment s T)
    quiet s a b k l q = elim q [
      | inl u ↦ (
          let v = row_later k (released_row k l (omega (arith, here, u.1))) l in omega (arith, v, u.1))
      | inr q1 ↦ elim q1 [
        | inl u ↦ (let p : phase (T.cell k) ≡ 2 = ap Stages.number u.0 in
            let w = h.ends (c k l (omega arith) (omega arith)) _ (low k l (omega arith) (omega arith)) (due_at log _ k 2 (has_job k l (omega arith) (omega arith)) (has_number k l (omega arith) (omega arith) ∙ p)) in
            omega (arith, w, ap (λ (z : LogRow). z.a_end) (moved.granting.shows.row k l), u.1))
        | inr q2 ↦ elim q2 [
          | inl u ↦ (let p : phase (T.cell k) ≡ 3 = ap Stages.number u.0 in
              let w = h.ends (c k l (omega arith) (omega arith)) _ (low k l (omega arith) (omega arith)) (due_at log _ k 3 (has_job k l (omega arith) (omega arith)) (has_number k l (omega arith) (omega arith) ∙ p)) in
              omega (arith, w, ap (λ (z : LogRow). z.e_end) (moved.granting.shows.row k l), u.1))
          | inr u ↦ (let p : phase (T.cell k) ≡ 5 = ap Stages.number u.0 in
              let w = h.ends (c k l (omega arith) (omega arith)) _ (low k l (omega arith) (omega arith)) (due_at log _ k 5 (has_job k l (omega arith) (omega arith)) (has_number k l (omega arith) (omega arith) ∙ p)) in
              omega (arith, w, ap (λ (z : LogRow). z.end) (moved.granting.shows.row k l), u.1))
        ]
      ]
    ]

    more : (ds : List ℕ) × Extended P Z moved.choices time moved.granting.port moved.count ds
    more = extended P Z moved.choices time moved.granting.port moved.count

    jumped : run P Z more.0 t ≡ at_moment t T
    jumped =
        let e = more.1.next in
        let allowed_run : AllowedRun P Z more.0 (suc time) (B.meaning x) (B.meaning y) = record {
          sound = moved.sound;
          lawful = moved.lawful;
          ports = moved.ports;
          idle = moved.idle;
          turns = (keeps_rule B laws x (run P Z more.0 (suc time)).events y moved.stood (subst (λ (U : State). Course B x U.events y) (sym e) moved.granting.course)).0;
        } in
        time_may_jump P Z more.0 (suc time) t (B.meaning x) (B.meaning y) later allowed_run
        (λ s a b. subst (λ (U : State). Quiet Z (at_moment s U)) (sym e) (quiet s a b))
        ∙ ap (at_moment t) e

    course : Course B x (run P Z more.0 t).events y
    course = subst (λ (U : State). Course B x U.events y) (sym jumped) moved.granting.course

    not_over : AllOver Z (run P Z more.0 t) → ⊥
    not_over whole =
        let six : phase (T.cell asker.0) ≡ 6 = ap (λ (U : State). phase (U.cell asker.0)) (sym jumped) ∙ whole asker.0 asker.1 in
        elim (due_asks T.now (Z.row asker.0).release (T.cell asker.0) t asker.2) [
          | for_release p m u ↦ omega arith
          | for_a p u ↦ omega arith
          | for_e p u ↦ omega arith
          | for_r p u ↦ omega arith
        ]

    in_time : Short J → length J ≤ 1024 → t ≤ most
    in_time short few =
        let b = left_most J short (λ k l. (moved.lawful k l).early) few in
        elim (claim P Z moved.sound ok (B.meaning x) moved.ports moved.idle more.0 t (B.meaning y) (keeps (keeps_rule B laws x (run P Z more.0 t).events y moved.stood course).0)) [
          | inl w ↦ bounded_by (total_left Z (run P Z more.0 t)) t (total_left Z begun) most w b
          | inr w ↦ absurd (not_over w)
        ]
      where
        bounded_by : (a t b m : ℕ) → a + t ≤ b → b ≤ m → t ≤ m
        bounded_by a t b m u v = omega arith

    pub driven_more : Short J → length J ≤ 1024 → Driven B P J x t upto stages ready log y
    driven_more short few = record {
      choices = more.0;
      count = more.1.counted ∙ ap (λ (U : State). length (grants_of U.events)) more.1.next ∙ sym (ap (λ (U : State). length (grants_of U.events)) jumped);
      at = record {
        sound = moved.sound;
        lawful = moved.lawful;
        fetched = moved.fetched;
        stood = moved.stood;
        ports = moved.ports;
        idle = moved.idle;
        cores = moved.cores;
        reached = after more.0 t;
        course = course;
        shows = subst (Shows P J t stages (pool ready upto) log) (sym jumped) (record {
          now = refl;
          row = moved.granting.shows.row;
          has = moved.granting.shows.has;
          phase = moved.granting.shows.phase;
          pooled = (let q = moved.granting.shows.pooled in record {
            most = q.most;
            before = λ k u. omega (arith, q.before k u, here, later);
            after = λ k u l. row_later k u l;
            later = q.later;
            held = q.held;
            keyed = q.keyed;
            rising = q.rising;
          });
        });
      };
      early = in_time short few;
    }
