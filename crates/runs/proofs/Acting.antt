-- Step 3 at one core, and its loop.
use Rattle.std.proofs.Common.{◌≡◌, ℕ, ◌+◌, ◌<◌, ◌≤◌, Bool, true, false, cond, ◌&&◌, eqb, ◌⊎◌, List, ◌∷◌, length, get_or, set, Some, None, sym, refl, ap, ◌∙◌, subst, inl, inr, add-one, arith, length-set}
use Rattle.std.proofs.lemmas.Bool.{both_ways, eq-eqb, ne_eqb, cond-true, cond-false, and_left}
use Rattle.std.proofs.lemmas.List.{set-get_or}
use Rattle.tasks.specs.declared.refusal.Refusal.{Refusal}
use Rattle.argument.specs.Plans.{Plan}
use Rattle.bus.specs.Means.{Means, Laws, JoinRefused}
use Rattle.bus.specs.Courses.{joins, Course}
use Rattle.bus.proofs.Refused.{join_sure}
use Rattle.bridge.specs.States.{State, put, job_of}
use Rattle.bridge.specs.Moments.{started, executed, join_a, join_r, begin_at, act_at, acts, first}
use Rattle.bridge.proofs.Cells.{phase, put_at, put_off}
use Rattle.bridge.proofs.Moves.{Inv}
use Rattle.bridge.proofs.Steps.{first_of, FirstOf, Ready, ready_parts}
use Rattle.bridge.proofs.Ties.{may_join}
use Rattle.runs.specs.declared.rows.Job.{Job}
use Rattle.runs.specs.declared.rows.LogRow.{LogRow}
use Rattle.runs.specs.declared.stage.Turn.TheVariants.{First, Last}
use Rattle.runs.specs.declared.stage.Stage.{Stage}
use Rattle.runs.specs.declared.stage.Stage.TheVariants.{Idle, Waiting, A, E, R}
use Rattle.runs.specs.declared.stage.Event.TheVariants.{Start, Ended}
use Rattle.runs.specs.Machine as Machine
use Rattle.runs.specs.Machine.{job, number, none, leaves, onward, Inside, free, served}
use Rattle.runs.specs.Pool.{Pool}
use Rattle.runs.specs.Shown.{Shows, At, AllInside, script_of, shown, no_job, Reached, acting}
use Rattle.runs.proofs.Going.{at_ok, at_stands, at_inv, at_on, at_core}
use Rattle.runs.proofs.Showing.{shows_on, rows_same, rows_set, inside_set, inside_on}
use Rattle.runs.proofs.Pools.{pool_on, first_is, pool_start}
use Rattle.runs.specs.Pool.{chosen, without}
use Rattle.runs.specs.Shown.{AllReleased}
use Rattle.runs.specs.declared.ready.Ready as Kept

abbrev Ready' : Type 0
Ready' = Kept.Ready

act_e : (P : Plan) (J : List Job) (S : State) (c k : ℕ) → S.has c ≡ Some k → phase (S.cell k) ≡ 3 → act_at P (script_of J) S c (S.has c) ≡ cond (eqb (S.cell k).e_end S.now) (join_r S c k) S
act_e P J S c k e p = ap (act_at P (script_of J) S c) e ∙ one (eqb (phase (S.cell k)) 3) (eqb (S.cell k).e_end S.now) (eq-eqb (phase (S.cell k)) 3 p) (join_r S c k) S
  where
    one : (u v : Bool) → u ≡ true → (T S : State) → cond (u && v) T S ≡ cond v T S
    one true v a T S = refl
    one false v a T S = absurd (both_ways false refl a)

act_is : (P : Plan) (J : List Job) (S : State) (c k n : ℕ) → S.has c ≡ Some k → phase (S.cell k) ≡ n → (n ≡ 3 → ⊥) → act_at P (script_of J) S c (S.has c) ≡ S
act_is P J S c k n e p a = ap (act_at P (script_of J) S c) e
    ∙ cond-false (eqb (phase (S.cell k)) 3 && eqb (S.cell k).e_end S.now) (join_r S c k) S (and_left (eqb (phase (S.cell k)) 3) (eqb (S.cell k).e_end S.now) (ne_eqb (phase (S.cell k)) 3 (λ u. a (sym p ∙ u))))

abbrev pub with_start : ℕ → LogRow → LogRow
with_start t r = record { id = r.id; release = r.release; start = t; a_granted = r.a_granted; a_end = r.a_end; e_end = r.e_end; r_granted = r.r_granted; end = r.end }

module _ {X : Type 0} {B : Means X} (laws : Laws B) {P : Plan} {J : List Job} {x y : X} {time : ℕ} {stages : List Stage} {marks : Pool} {log : List LogRow} {S : State}
    (h : At B P J x y time stages marks log S) (c : ℕ) (l : c < length stages) where
  inv : Inv P (script_of J) (B.meaning x).limit S (B.meaning y)
  inv = at_inv laws h

  on_reached : Reached P (script_of J) (act_at P (script_of J) S c (S.has c))
  on_reached = acting S c h.reached

  stays : act_at P (script_of J) S c (S.has c) ≡ S → At B P J x y time stages marks log (act_at P (script_of J) S c (S.has c))
  stays e = subst (At B P J x y time stages marks log) (sym e) h

  pub act_none : (s : Stage) → get_or stages c Idle ≡ s → Machine.executed log time s ≡ false → free s ≡ false → At B P J x y time stages marks log (act_at P (script_of J) S c (S.has c))
  act_none Idle e t f = absurd (both_ways true f refl)
  act_none (Waiting First k) e t f = let core = at_core laws h c l e refl in stays (act_is P J S c k 1 core.has core.in_phase (λ u. omega arith))
  act_none (Waiting Last k) e t f = let core = at_core laws h c l e refl in stays (act_is P J S c k 4 core.has core.in_phase (λ u. omega arith))
  act_none (A k) e t f = let core = at_core laws h c l e refl in stays (act_is P J S c k 2 core.has core.in_phase (λ u. omega arith))
  act_none (R k) e t f = let core = at_core laws h c l e refl in stays (act_is P J S c k 5 core.has core.in_phase (λ u. omega arith))
  act_none (E k) e t f =
      let core = at_core laws h c l e refl in
      stays (act_e P J S c k core.has core.in_phase ∙ cond-false (eqb (S.cell k).e_end S.now) (join_r S c k) S
      (sym (ap (λ (z : LogRow). eqb z.e_end S.now) core.row) ∙ ap (eqb (get_or log k none).e_end) (sym h.shows.now) ∙ t))

  idle_has : (s : Stage) → get_or stages c Idle ≡ s → free s ≡ true → S.has c ≡ None
  idle_has Idle e f = sym (h.shows.has c l) ∙ ap job e
  idle_has (Waiting t k) e f = absurd (both_ways false refl f)
  idle_has (A k) e f = absurd (both_ways false refl f)
  idle_has (E k) e f = absurd (both_ways false refl f)
  idle_has (R k) e f = absurd (both_ways false refl f)

  pub act_unready : (s : Stage) → get_or stages c Idle ≡ s → free s ≡ true → first P (script_of J) S c (length J) ≡ None → At B P J x y time stages marks log (act_at P (script_of J) S c (S.has c))
  act_unready s e f n = stays (ap (act_at P (script_of J) S c) (idle_has s e f) ∙ ap (begin_at S c) n)

  port : c < (B.meaning y).ports
  port = omega (arith, inv.bus.ports, h.cores, l)

  -- the arbiter refuses no join
  pub act_sure : (s : Stage) → get_or stages c Idle ≡ s → ((Machine.executed log time s ≡ true) ⊎ (free s ≡ true)) → (e : Refusal) → JoinRefused (B.meaning y) c e → ⊥
  act_sure s e d r q =
      let w = may_join P (script_of J) h.sound (at_ok laws h) (B.meaning x).limit S (B.meaning y) inv c (λ k has. go s e d k has) in
      join_sure (B.meaning y) c r q port w.0 w.1
    where
      go : (s : Stage) → get_or stages c Idle ≡ s → ((Machine.executed log time s ≡ true) ⊎ (free s ≡ true)) → (k : ℕ) → S.has c ≡ Some k → phase (S.cell k) ≡ 3
      go Idle e d k has = (let u = sym (h.shows.has c l) ∙ ap job e in absurd (cc))
      go (Waiting t j) e d k has = elim d [ inl u ↦ absurd (both_ways false refl u) | inr u ↦ absurd (both_ways false refl u) ]
      go (A j) e d k has = elim d [ inl u ↦ absurd (both_ways false refl u) | inr u ↦ absurd (both_ways false refl u) ]
      go (R j) e d k has = elim d [ inl u ↦ absurd (both_ways false refl u) | inr u ↦ absurd (both_ways false refl u) ]
      go (E j) e d k has = h.shows.phase c k l has ∙ ap number e

  pub act_executed : (s : Stage) → get_or stages c Idle ≡ s → Machine.executed log time s ≡ true → (y' : X) → B.joins y c y'
      → At B P J x y' time (set stages c (onward s Ended)) marks log (act_at P (script_of J) S c (S.has c))
  act_executed Idle e t y' q = absurd (both_ways false refl t)
  act_executed (Waiting First k) e t y' q = absurd (both_ways false refl t)
  act_executed (Waiting Last k) e t y' q = absurd (both_ways false refl t)
  act_executed (A k) e t y' q = absurd (both_ways false refl t)
  act_executed (R k) e t y' q = absurd (both_ways false refl t)
  act_executed (E k) e t y' q =
      let core = at_core laws h c l e refl in
      let is : act_at P (script_of J) S c (S.has c) ≡ join_r S c k = act_e P J S c k core.has core.in_phase ∙ cond-true (eqb (S.cell k).e_end S.now) (join_r S c k) S
      (sym (ap (λ (z : LogRow). eqb z.e_end S.now) core.row) ∙ ap (eqb (get_or log k none).e_end) (sym h.shows.now) ∙ t) in
      at_on laws h (length-set stages c (Waiting Last k)) on_reached (subst (λ (T : State). Course B x T.events y') (sym is) (Course.join h.course q)) (subst (Shows P J time (set stages c (Waiting Last k)) marks log) (sym is)
      (shows_on h.shows inv.cores c k (Waiting Last k) (executed (S.cell k)) S.has (joins c ∷ S.events) marks log l core.same (sym core.has) (λ d ne. refl)
      (λ j u. (cc, refl))
      (rows_same h.shows inv.cores k (executed (S.cell k)) refl)
      (pool_on h.shows.pooled k (executed (S.cell k)) (omega arith) (omega arith))))

  chosen_one : (k : ℕ) → first P (script_of J) S c (length J) ≡ Some k → (k < length J) × Ready P (script_of J) S c k
  chosen_one k e = let w = subst (FirstOf P (script_of J) S c (length J)) e (first_of P (script_of J) S c (length J)) in (w.0, ready_parts P (script_of J) S c k w.1)

  pub act_start : (s : Stage) → get_or stages c Idle ≡ s → free s ≡ true → (k : ℕ) → chosen c marks.ready ≡ Some k
      → ((k : ℕ) → marks.upto ≤ k → k < length J → S.now < (get_or J k no_job).release) → k < length log → (y' : X) → B.joins y c y'
      → At B P J x y' time (set stages c (onward s (Start k))) (record { ready = without c marks.ready; upto = marks.upto }) (set log k (with_start time (get_or log k none))) (act_at P (script_of J) S c (S.has c))
  act_start (Waiting First j) e f k n a b y' q = absurd (both_ways false refl f)
  act_start (Waiting Last j) e f k n a b y' q = absurd (both_ways false refl f)
  act_start (A j) e f k n a b y' q = absurd (both_ways false refl f)
  act_start (E j) e f k n a b y' q = absurd (both_ways false refl f)
  act_start (R j) e f k n a b y' q = absurd (both_ways false refl f)
  act_start Idle e f k n a b y' q =
      let has = idle_has Idle e f in
      let ok = at_ok laws h in
      let m = first_is h.sound ok h.shows.pooled a c (Some k) n in
      let w = chosen_one k m in
      let pool' : Pool = record { ready = without c marks.ready; upto = marks.upto } in
      let is : act_at P (script_of J) S c (S.has c) ≡ join_a S c k = ap (act_at P (script_of J) S c) has ∙ ap (begin_at S c) m in
      at_on laws h (length-set stages c (Waiting First k)) on_reached (subst (λ (T : State). Course B x T.events y') (sym is) (Course.join h.course q)) (subst (Shows P J time (set stages c (Waiting First k)) pool' (set log k (with_start time (get_or log k none)))) (sym is)
      (shows_on h.shows inv.cores c k (Waiting First k) (started S.now (S.cell k)) (put S.has c (Some k)) (joins c ∷ S.events) pool' (set log k (with_start time (get_or log k none))) l
      w.1.same (sym (put_at S.has c (Some k))) (λ d ne. put_off S.has c (Some k) d ne)
      (λ j u. (let v = put_at S.has c (Some k) in let z : j ≡ k = cc in z, refl))
      (rows_set h.shows inv.cores k (started S.now (S.cell k)) (with_start time (get_or log k none)) b (ap (with_start time) (h.shows.row k w.0) ∙ ap (λ t. with_start t (shown P (job_of (script_of J) k (S.cell k)))) h.shows.now))
      (pool_start h.sound ok h.shows.pooled a c k (started S.now (S.cell k)) n (omega arith))))

-- ---- the loop

-- the ready jobs, while no more are released
abbrev pub pool : ℕ → List Ready' → Pool
pool upto ready = record { ready = ready; upto = upto }

-- after step 3 at the cores below c
pub record Acted {X : Type 0} (B : Means X) (J : List Job) (time upto : ℕ) (stages₀ : List Stage) (ready₀ : List Ready') (log₀ : List LogRow) (y₀ : X)
    (c : ℕ) (stages : List Stage) (ready : List Ready') (log : List LogRow) (y : X) : Type 0 where
  pub inside : AllInside (length J) stages
  pub goes : (P : Plan) (x : X) (S : State) → At B P J x y₀ time stages₀ (pool upto ready₀) log₀ S → At B P J x y time stages (pool upto ready) log (acts P (script_of J) c S)

module _ {X : Type 0} {B : Means X} (laws : Laws B) {J : List Job} {time upto : ℕ} (released : AllReleased J time upto)
    {stages₀ : List Stage} {ready₀ : List Ready'} {log₀ : List LogRow} {y₀ : X} {c : ℕ} {stages : List Stage} {ready : List Ready'} {log : List LogRow} {y : X}
    (f : Acted B J time upto stages₀ ready₀ log₀ y₀ c stages ready log y) (l : c < length stages) where
  released_at : {P : Plan} {x : X} {S : State} → At B P J x y time stages (pool upto ready) log S → (k : ℕ) → upto ≤ k → k < length J → S.now < (get_or J k no_job).release
  released_at h k a b = omega (arith, released k a b, h.shows.now)

  pub acted_executed : {stages' : List Stage} {s : Stage} {ready' : List Ready'} {log' : List LogRow} {y' y'' : X} → Machine.executed log time (get_or stages c Idle) ≡ true → s ≡ onward (get_or stages c Idle) Ended
      → stages' ≡ set stages c s → ready' ≡ ready → log' ≡ log → y' ≡ y'' → (B.stands y → B.joins y c y'') → Acted B J time upto stages₀ ready₀ log₀ y₀ (c + 1) stages' ready' log' y'
  acted_executed t e u a b v q = rw add-one (rw a (rw b (rw u (rw v (rw e (record {
    inside = inside_set (length J) stages c (onward (get_or stages c Idle) Ended) f.inside (inside_on (length J) (get_or stages c Idle) (f.inside c l));
    goes = λ P x S a. (let h = f.goes P x S a in act_executed laws h c l (get_or stages c Idle) refl t _ (q (at_stands laws h)));
  }))))))

  pub acted_start : (k : ℕ) {stages' : List Stage} {s : Stage} {ready' : List Ready'} {log' : List LogRow} {y' y'' : X} → free (get_or stages c Idle) ≡ true → Some k ≡ chosen c ready → k < length J
      → length log ≡ length J
      → s ≡ onward (get_or stages c Idle) (Start k) → stages' ≡ set stages c s → ready' ≡ without c ready → log' ≡ set log k (with_start time (get_or log k none)) → y' ≡ y'' → (B.stands y → B.joins y c y'')
      → Acted B J time upto stages₀ ready₀ log₀ y₀ (c + 1) stages' ready' log' y'
  acted_start k t w kl ll e u v lg z q =
      rw add-one (rw v (rw lg (rw u (rw z (rw e (record {
        inside = inside_set (length J) stages c (onward (get_or stages c Idle) (Start k)) f.inside (starts kl (get_or stages c Idle) (f.inside c l));
        goes = λ P x S a. (
            let h = f.goes P x S a in
            act_start laws h c l (get_or stages c Idle) refl t k (sym w) (released_at h) (omega (arith, kl, ll)) _ (q (at_stands laws h)));
      }))))))
    where
      starts : {k : ℕ} → k < length J → (s : Stage) → Inside (length J) s → Inside (length J) (onward s (Start k))
      starts kl Idle j = kl
      starts kl (Waiting First d) j = j
      starts kl (Waiting Last d) j = j
      starts kl (A d) j = j
      starts kl (E d) j = j
      starts kl (R d) j = j

  pub acted_none : {stages' : List Stage} {ready' : List Ready'} {log' : List LogRow} {y' : X} → Machine.executed log time (get_or stages c Idle) ≡ false
      → ((free (get_or stages c Idle) ≡ false) ⊎ ((free (get_or stages c Idle) ≡ true) × (None ≡ chosen c ready)))
      → stages' ≡ set stages c (get_or stages c Idle) → ready' ≡ ready → log' ≡ log → y' ≡ y → Acted B J time upto stages₀ ready₀ log₀ y₀ (c + 1) stages' ready' log' y'
  acted_none t d u v lg z = rw add-one (rw (u ∙ set-get_or stages c Idle) (rw v (rw lg (rw z (record {
    inside = f.inside;
    goes = λ P x S a. (
        let h = f.goes P x S a in
        elim d [
          | inl w ↦ act_none laws h c l (get_or stages c Idle) refl t w
          | inr w ↦ act_unready laws h c l (get_or stages c Idle) refl w.0 (first_is h.sound (at_ok laws h) h.shows.pooled (released_at h) c None (sym w.1))
        ]);
  })))))

  pub acted_sure : (e : Refusal) → ((Machine.executed log time (get_or stages c Idle) ≡ true) ⊎ (free (get_or stages c Idle) ≡ true)) → (B.stands y → JoinRefused (B.meaning y) c e)
      → (P : Plan) (x : X) (S : State) → At B P J x y₀ time stages₀ (pool upto ready₀) log₀ S → ⊥
  acted_sure e d q P x S a = let h = f.goes P x S a in act_sure laws h c l (get_or stages c Idle) refl d e (q (at_stands laws h))

-- after them all
pub acted_all : {X : Type 0} {B : Means X} {J : List Job} {time upto : ℕ} {stages₀ : List Stage} {ready₀ : List Ready'} {log₀ : List LogRow} {y₀ : X} {c : ℕ} {stages : List Stage} {ready : List Ready'} {log : List LogRow} {y : X}
    → Acted B J time upto stages₀ ready₀ log₀ y₀ c stages ready log y → (n : ℕ) → c ≡ n
    → (P : Plan) (x : X) (S : State) → At B P J x y₀ time stages₀ (pool upto ready₀) log₀ S → At B P J x y time stages (pool upto ready) log (acts P (script_of J) n S)
acted_all {B = B} {J = J} {time = time} {upto = upto} {stages = stages} {ready = ready} {log = log} {y = y} f n e P x S a =
    subst (λ k. At B P J x y time stages (pool upto ready) log (acts P (script_of J) k S)) e (f.goes P x S a)
