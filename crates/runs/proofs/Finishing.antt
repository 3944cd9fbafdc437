-- Step 1 at one core.
use Rattle.std.proofs.Common.{◌≡◌, ℕ, ◌+◌, ◌<◌, Bool, true, false, cond, ◌&&◌, eqb, List, ◌∷◌, length, get_or, set, Some, None, sym, refl, ap, ◌∙◌, subst, add-one, arith, length-set}
use Rattle.std.proofs.lemmas.Bool.{both_ways, eq-eqb, ne_eqb, cond-true, cond-false, and_left}
use Rattle.std.proofs.lemmas.List.{set-get_or}
use Rattle.tasks.specs.declared.refusal.Refusal.{Refusal}
use Rattle.argument.specs.Plans.{Plan}
use Rattle.argument.specs.Logs as Logs
use Rattle.bus.specs.Means.{Means, Laws, DoneRefused}
use Rattle.bus.specs.Courses.{ends, Course}
use Rattle.bus.proofs.Refused.{done_sure}
use Rattle.bridge.specs.States.{State, put}
use Rattle.bridge.specs.Moments.{executing, returned, end_a, end_r, finish_at, finishes}
use Rattle.bridge.proofs.Cells.{phase, put_at, put_off}
use Rattle.bridge.proofs.Moves.{Inv}
use Rattle.bridge.proofs.Ties.{may_end}
use Rattle.runs.specs.declared.rows.Job.{Job}
use Rattle.runs.specs.declared.rows.LogRow.{LogRow}
use Rattle.runs.specs.declared.stage.Turn.TheVariants.{First, Last}
use Rattle.runs.specs.declared.stage.Stage.{Stage}
use Rattle.runs.specs.declared.stage.Stage.TheVariants.{Idle, Waiting, A, E, R}
use Rattle.runs.specs.declared.stage.Event.TheVariants.{Ended}
use Rattle.runs.specs.Machine.{job, none, leaves, onward}
use Rattle.runs.specs.Pool.{Pool}
use Rattle.runs.specs.Shown.{Shows, At, AllInside, script_of, finishing}
use Rattle.runs.proofs.Going.{at_ok, at_stands, at_inv, at_on, at_core}
use Rattle.runs.proofs.Showing.{shows_on, rows_same, inside_set, inside_on}
use Rattle.runs.proofs.Pools.{pool_on}

-- what the definition does, by the phase
finish_is : (S : State) (c k n : ℕ) → S.has c ≡ Some k → phase (S.cell k) ≡ n → (n ≡ 2 → ⊥) → (n ≡ 5 → ⊥) → finish_at S c (S.has c) ≡ S
finish_is S c k n e p a b = ap (finish_at S c) e
    ∙ cond-false (eqb (phase (S.cell k)) 2 && eqb (S.cell k).a_end S.now) (end_a S k) _ (and_left (eqb (phase (S.cell k)) 2) (eqb (S.cell k).a_end S.now) (ne_eqb (phase (S.cell k)) 2 (λ u. a (sym p ∙ u))))
    ∙ cond-false (eqb (phase (S.cell k)) 5 && eqb (S.cell k).end S.now) (end_r S c k) S (and_left (eqb (phase (S.cell k)) 5) (eqb (S.cell k).end S.now) (ne_eqb (phase (S.cell k)) 5 (λ u. b (sym p ∙ u))))

finish_a : (S : State) (c k : ℕ) → S.has c ≡ Some k → phase (S.cell k) ≡ 2 → finish_at S c (S.has c) ≡ cond (eqb (S.cell k).a_end S.now) (end_a S k) S
finish_a S c k e p = ap (finish_at S c) e ∙ two (eqb (phase (S.cell k)) 2) (eqb (phase (S.cell k)) 5) (eqb (S.cell k).a_end S.now) (eqb (S.cell k).end S.now) (eq-eqb (phase (S.cell k)) 2 p) (ne_eqb (phase (S.cell k)) 5 (λ u. omega arith)) (end_a S k) (end_r S c k) S
  where
    two : (x y u v : Bool) → x ≡ true → y ≡ false → (T W S : State) → cond (x && u) T (cond (y && v) W S) ≡ cond u T S
    two true false u v a b T W S = refl
    two true true u v a b T W S = absurd (both_ways true b refl)
    two false y u v a b T W S = absurd (both_ways false refl a)

finish_r : (S : State) (c k : ℕ) → S.has c ≡ Some k → phase (S.cell k) ≡ 5 → finish_at S c (S.has c) ≡ cond (eqb (S.cell k).end S.now) (end_r S c k) S
finish_r S c k e p = ap (finish_at S c) e ∙ two (eqb (phase (S.cell k)) 2) (eqb (phase (S.cell k)) 5) (eqb (S.cell k).a_end S.now) (eqb (S.cell k).end S.now) (ne_eqb (phase (S.cell k)) 2 (λ u. omega arith)) (eq-eqb (phase (S.cell k)) 5 p) (end_a S k) (end_r S c k) S
  where
    two : (x y u v : Bool) → x ≡ false → y ≡ true → (T W S : State) → cond (x && u) T (cond (y && v) W S) ≡ cond v W S
    two false true u v a b T W S = refl
    two false false u v a b T W S = absurd (both_ways false refl b)
    two true y u v a b T W S = absurd (both_ways true a refl)

module _ {X : Type 0} {B : Means X} (laws : Laws B) {P : Plan} {J : List Job} {x y : X} {time : ℕ} {stages : List Stage} {started : Pool} {log : List LogRow} {S : State}
    (h : At B P J x y time stages started log S) (c : ℕ) (l : c < length stages) where
  inv : Inv P (script_of J) (B.meaning x).limit S (B.meaning y)
  inv = at_inv laws h

  pub standing : B.stands y
  standing = at_stands laws h

  -- the arbiter is told, and the values show the state after
  moved : (y' : X) (stages' : List Stage) → length stages' ≡ length stages → Course B x (finish_at S c (S.has c)).events y'
      → Shows P J time stages' started log (finish_at S c (S.has c)) → At B P J x y' time stages' started log (finish_at S c (S.has c))
  moved y' stages' e p s = at_on laws h e (finishing S c h.reached) p s

  stays : finish_at S c (S.has c) ≡ S → At B P J x y time stages started log (finish_at S c (S.has c))
  stays e = subst (At B P J x y time stages started log) (sym e) h

  -- nothing ends
  pub finish_none : (s : Stage) → get_or stages c Idle ≡ s → leaves log time s ≡ false → At B P J x y time stages started log (finish_at S c (S.has c))
  finish_none Idle e t = stays (ap (finish_at S c) (sym (h.shows.has c l) ∙ ap job e))
  finish_none (Waiting First k) e t = let core = at_core laws h c l e refl in stays (finish_is S c k 1 core.has core.in_phase (λ u. omega arith) (λ u. omega arith))
  finish_none (Waiting Last k) e t = let core = at_core laws h c l e refl in stays (finish_is S c k 4 core.has core.in_phase (λ u. omega arith) (λ u. omega arith))
  finish_none (E k) e t = let core = at_core laws h c l e refl in stays (finish_is S c k 3 core.has core.in_phase (λ u. omega arith) (λ u. omega arith))
  finish_none (A k) e t =
      let core = at_core laws h c l e refl in
      stays (finish_a S c k core.has core.in_phase ∙ cond-false (eqb (S.cell k).a_end S.now) (end_a S k) S
      (sym (ap (λ (z : LogRow). eqb z.a_end S.now) core.row) ∙ ap (eqb (get_or log k none).a_end) (sym h.shows.now) ∙ t))
  finish_none (R k) e t =
      let core = at_core laws h c l e refl in
      stays (finish_r S c k core.has core.in_phase ∙ cond-false (eqb (S.cell k).end S.now) (end_r S c k) S
      (sym (ap (λ (z : LogRow). eqb z.end S.now) core.row) ∙ ap (eqb (get_or log k none).end) (sym h.shows.now) ∙ t))

  -- a phase on the bus ends: the arbiter serves the core
  pub finish_served : (s : Stage) → get_or stages c Idle ≡ s → leaves log time s ≡ true → (B.meaning y).serves ≡ Some c
  finish_served Idle e t = absurd (both_ways false refl t)
  finish_served (Waiting First k) e t = absurd (both_ways false refl t)
  finish_served (Waiting Last k) e t = absurd (both_ways false refl t)
  finish_served (E k) e t = absurd (both_ways false refl t)
  finish_served (A k) e t = let core = at_core laws h c l e refl in may_end P (script_of J) h.sound (at_ok laws h) (B.meaning x).limit S (B.meaning y) inv Logs.A c k core.has core.in_phase
  finish_served (R k) e t = let core = at_core laws h c l e refl in may_end P (script_of J) h.sound (at_ok laws h) (B.meaning x).limit S (B.meaning y) inv Logs.R c k core.has core.in_phase

  pub finish_some : (s : Stage) → get_or stages c Idle ≡ s → leaves log time s ≡ true → (y' : X) → B.ends y y'
      → At B P J x y' time (set stages c (onward s Ended)) started log (finish_at S c (S.has c))
  finish_some Idle e t y' q = absurd (both_ways false refl t)
  finish_some (Waiting First k) e t y' q = absurd (both_ways false refl t)
  finish_some (Waiting Last k) e t y' q = absurd (both_ways false refl t)
  finish_some (E k) e t y' q = absurd (both_ways false refl t)
  finish_some (A k) e t y' q =
      let core = at_core laws h c l e refl in
      let is : finish_at S c (S.has c) ≡ end_a S k = finish_a S c k core.has core.in_phase ∙ cond-true (eqb (S.cell k).a_end S.now) (end_a S k) S
      (sym (ap (λ (z : LogRow). eqb z.a_end S.now) core.row) ∙ ap (eqb (get_or log k none).a_end) (sym h.shows.now) ∙ t) in
      moved y' (set stages c (E k)) (length-set stages c (E k))
      (subst (λ (T : State). Course B x T.events y') (sym is) (Course.done h.course q))
      (subst (Shows P J time (set stages c (E k)) started log) (sym is)
      (shows_on h.shows inv.cores c k (E k) (executing (S.cell k)) S.has (ends ∷ S.events) started log l core.same (sym core.has) (λ d ne. refl)
      (λ j u. (cc, refl))
      (rows_same h.shows inv.cores k (executing (S.cell k)) refl)
      (pool_on h.shows.pooled k (executing (S.cell k)) (omega arith) (omega arith))))
  finish_some (R k) e t y' q =
      let core = at_core laws h c l e refl in
      let is : finish_at S c (S.has c) ≡ end_r S c k = finish_r S c k core.has core.in_phase ∙ cond-true (eqb (S.cell k).end S.now) (end_r S c k) S
      (sym (ap (λ (z : LogRow). eqb z.end S.now) core.row) ∙ ap (eqb (get_or log k none).end) (sym h.shows.now) ∙ t) in
      moved y' (set stages c Idle) (length-set stages c Idle)
      (subst (λ (T : State). Course B x T.events y') (sym is) (Course.done h.course q))
      (subst (Shows P J time (set stages c Idle) started log) (sym is)
      (shows_on h.shows inv.cores c k Idle (returned (S.cell k)) (put S.has c None) (ends ∷ S.events) started log l core.same (sym (put_at S.has c None)) (λ d ne. put_off S.has c None d ne)
      (λ j u. let w = put_at S.has c None in absurd (cc))
      (rows_same h.shows inv.cores k (returned (S.cell k)) refl)
      (pool_on h.shows.pooled k (returned (S.cell k)) (omega arith) (omega arith))))

-- ---- the loop

-- after step 1 at the cores below c
pub record Finished {X : Type 0} (B : Means X) (time : ℕ) (log : List LogRow) (stages₀ : List Stage) (y₀ : X) (c : ℕ) (stages : List Stage) (y : X) : Type 0 where
  pub inside : AllInside (length log) stages
  -- whatever number of jobs they are of
  pub keeps : (n : ℕ) → AllInside n stages₀ → AllInside n stages
  pub goes : (P : Plan) (J : List Job) (x : X) (pool : Pool) (S : State) → At B P J x y₀ time stages₀ pool log S → At B P J x y time stages pool log (finishes c S)

module _ {X : Type 0} {B : Means X} (laws : Laws B) {time : ℕ} {log : List LogRow} {stages₀ : List Stage} {y₀ : X} {c : ℕ} {stages : List Stage} {y : X}
    (f : Finished B time log stages₀ y₀ c stages y) (l : c < length stages) where
  pub ended_in : (n : ℕ) → AllInside n stages → AllInside n (set stages c (onward (get_or stages c Idle) Ended))
  ended_in n h = inside_set n stages c (onward (get_or stages c Idle) Ended) h (inside_on n (get_or stages c Idle) (h c l))

  pub finished_some : {stages' : List Stage} {s : Stage} {y' y'' : X} → leaves log time (get_or stages c Idle) ≡ true → s ≡ onward (get_or stages c Idle) Ended
      → stages' ≡ set stages c s → y' ≡ y'' → (B.stands y → B.ends y y'') → Finished B time log stages₀ y₀ (c + 1) stages' y'
  finished_some t e u v q = rw add-one (rw u (rw v (rw e (record {
    inside = ended_in (length log) f.inside;
    keeps = λ n h. ended_in n (f.keeps n h);
    goes = λ P J x pool S a. (let h = f.goes P J x pool S a in finish_some laws h c l (get_or stages c Idle) refl t _ (q (standing laws h c l)));
  }))))

  pub finished_none : {stages' : List Stage} {y' : X} → leaves log time (get_or stages c Idle) ≡ false → stages' ≡ set stages c (get_or stages c Idle) → y' ≡ y → Finished B time log stages₀ y₀ (c + 1) stages' y'
  finished_none t u v = rw add-one (rw (u ∙ set-get_or stages c Idle) (rw v (record {
    inside = f.inside;
    keeps = f.keeps;
    goes = λ P J x pool S a. finish_none laws (f.goes P J x pool S a) c l (get_or stages c Idle) refl t;
  })))

  pub finished_sure : (e : Refusal) → leaves log time (get_or stages c Idle) ≡ true → (B.stands y → DoneRefused (B.meaning y) e)
      → (P : Plan) (J : List Job) (x : X) (pool : Pool) (S : State) → At B P J x y₀ time stages₀ pool log S → ⊥
  finished_sure e t q P J x pool S a =
      let h = f.goes P J x pool S a in
      done_sure (B.meaning y) c e (q (standing laws h c l)) (finish_served laws h c l (get_or stages c Idle) refl t)

-- after them all
pub finished_all : {X : Type 0} {B : Means X} {time : ℕ} {log : List LogRow} {stages₀ : List Stage} {y₀ : X} {c : ℕ} {stages : List Stage} {y : X}
    → Finished B time log stages₀ y₀ c stages y → (n : ℕ) → c ≡ n
    → (P : Plan) (J : List Job) (x : X) (pool : Pool) (S : State) → At B P J x y₀ time stages₀ pool log S → At B P J x y time stages pool log (finishes n S)
finished_all {B = B} {time = time} {log = log} {stages = stages} {y = y} f n e P J x pool S a = subst (λ k. At B P J x y time stages pool log (finishes k S)) e (f.goes P J x pool S a)
