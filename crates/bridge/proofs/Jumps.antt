-- A moment at which nothing is due changes nothing.
use Rattle.std.proofs.Common.{◌≡◌, ℕ, zero, suc, ◌+◌, ◌-◌, ◌<◌, ◌≤◌, cond, List, length, get_or, None, Option, sym, refl, ap, ◌∙◌, subst, inl, inr, arith}
use Rattle.std.proofs.lemmas.Bool.{cases_eq, both_ways, cond_both}
use Rattle.tasks.specs.Limits.{Limit}
use Rattle.argument.specs.Sums.{any}
use Rattle.argument.specs.Plans.{Plan, SoundPlan}
use Rattle.argument.specs.Logs.{Turn}
use Rattle.bus.specs.Turns.{Meaning, Idle}
use Rattle.bus.specs.Courses.{RuleCourse}
use Rattle.bridge.specs.Scripts.{Script}
use Rattle.bridge.specs.States.{State}
use Rattle.bridge.specs.Moments.{finish_at, finishes, act_at, acts, serving, waits_now, grant_at, granting, moment}
use Rattle.bridge.specs.Runs.{tick, run, at_moment, grants_of}
use Rattle.bridge.specs.Promises.{AllowedRun, Quiet, AQuietMomentChangesNothing, TimeMayJump}
use Rattle.bridge.proofs.Allowed.{Allowed, allowed}
use Rattle.bridge.proofs.Kept.{Keeps, keeps}
use Rattle.bridge.proofs.Cells.{phase, at, at_some}
use Rattle.bridge.proofs.Moves.{Inv}
use Rattle.bridge.proofs.Steps.{Ready, ready_parts, first_of, waiting_true, any_serving, finishes_keep, acts_keep, Settled, settled_moment}
use Rattle.argument.proofs.Exchange.{any_true}
use Rattle.bridge.proofs.Ticks.{good_run}

-- before a moment: a free core's ready jobs are released at this very moment, and if a job waits, one is served
pub record Steady (P : Plan) (Z : Script) (lim : ℕ → ℕ → Limit) (S : State) (m : Meaning) : Type 0 where
  pub inv : Inv P Z lim S m
  pub taken : (c : ℕ) → c < P.cores → S.has c ≡ None → (k : ℕ) → k < Z.size → Ready P Z S c k → (Z.row k).release ≡ S.now
  pub busy : (x : Turn) (k : ℕ) → k < Z.size → phase (S.cell k) ≡ at x → (y : Turn) × (j : ℕ) × (j < Z.size) × (phase (S.cell j) ≡ suc (at y))

module _ (P : Plan) (Z : Script) (sound : SoundPlan P) (ok : Allowed P Z) (lim : ℕ → ℕ → Limit) (m₀ : Meaning) (S : State) (m : Meaning) (h : Steady P Z lim S m) (quiet : Quiet Z S) where
  abbrev i : Inv P Z lim S m
  i = h.inv

  quiet_finish : (c : ℕ) (o : Option ℕ) → S.has c ≡ o → finish_at S c o ≡ S
  quiet_finish c o e = grind arith

  quiet_finishes : (n : ℕ) → finishes n S ≡ S
  quiet_finishes zero = refl
  quiet_finishes (suc n) = ap (λ T. finish_at T n (T.has n)) (quiet_finishes n) ∙ quiet_finish n (S.has n) refl

  quiet_act : (c : ℕ) → c < P.cores → (o : Option ℕ) → S.has c ≡ o → act_at P Z S c o ≡ S
  quiet_act c l o e = let f = first_of P Z S c Z.size in grind (arith, ready_parts)

  quiet_acts : (n : ℕ) → n ≤ P.cores → acts P Z n S ≡ S
  quiet_acts zero l = refl
  quiet_acts (suc n) l = ap (λ T. act_at P Z T n (T.has n)) (quiet_acts n (omega arith)) ∙ quiet_act n (omega arith) (S.has n) refl

  quiet_granting : (p : ℕ) → granting P Z p S ≡ S
  quiet_granting p =
      cond_both (any P.cores (λ c. serving S (S.has c))) S (cond (any P.cores (λ c. waits_now S (S.has c))) (grant_at Z S p (S.has p)) S) (λ T. T ≡ S)
      (λ _. refl)
      (λ e. cond_both (any P.cores (λ c. waits_now S (S.has c))) (grant_at Z S p (S.has p)) S (λ T. T ≡ S)
      (λ f.
      let z = any_true P.cores (λ c. waits_now S (S.has c)) f in
      let w = waiting_true S (S.has z.0) z.2 in
      let b = h.busy w.0 w.1 (i.cores.holds z.0 w.1 w.2).known w.3 in
      absurd (both_ways (any P.cores (λ c. serving S (S.has c))) e (any_serving P Z sound ok S i.cores b.0 b.1 b.2 b.3)))
      (λ _. refl))

  pub quiet_moment : (p : ℕ) → moment P Z p S ≡ S
  quiet_moment p = grind (arith, quiet_finishes, quiet_acts, quiet_granting)

pub steady_run : (P : Plan) (Z : Script) (sound : SoundPlan P) (ok : Allowed P Z) (m₀ : Meaning) → m₀.ports ≡ P.cores → Idle m₀
    → (cs : List ℕ) (n : ℕ) (m : Meaning) → Keeps m₀ (run P Z cs n).events m → Steady P Z m₀.limit (run P Z cs n) m
steady_run P Z sound ok m₀ ports idle cs zero m kp = record {
  inv = good_run P Z sound ok m₀ ports idle cs zero m kp;
  taken = λ c l e k b r. (let u = r.released in omega arith);
  busy = λ x k l e. absurd (omega (arith, at_some x));
}
steady_run P Z sound ok m₀ ports idle cs (suc n) m kp = record {
  inv = good_run P Z sound ok m₀ ports idle cs (suc n) m kp;
  taken = λ c l e k b r. elim (cases_eq (Z.row k).release (suc T.now)) [
    | inl u ↦ u
    | inr u ↦ absurd (h.acted c l e k b (record { same = r.same; released = (let v = r.released in omega arith); unstarted = r.unstarted }))
  ];
  busy = h.busy m kp;
}
  where
    T : State
    T = moment P Z (get_or cs (length (grants_of (run P Z cs n).events)) 0) (run P Z cs n)

    h : Settled P Z sound ok m₀ T
    h = settled_moment P Z sound ok m₀ (get_or cs (length (grants_of (run P Z cs n).events)) 0) (run P Z cs n) (good_run P Z sound ok m₀ ports idle cs n)

-- ---- the time of a run

now_granting : (P : Plan) (Z : Script) (p : ℕ) (S : State) → (granting P Z p S).now ≡ S.now
now_granting P Z p S = grind arith

pub now_moment : (P : Plan) (Z : Script) (p : ℕ) (S : State) → (moment P Z p S).now ≡ S.now
now_moment P Z p S =
    now_granting P Z p (acts P Z P.cores (finishes P.cores S))
    ∙ acts_keep P Z (λ T. T.now ≡ S.now) (λ T c k e h n. n) (λ T c k e a b n. n) P.cores (finishes P.cores S)
    (finishes_keep (λ T. T.now ≡ S.now) (λ T c k e a b n. n) (λ T c k e a b n. n) P.cores S refl)

pub now_run : (P : Plan) (Z : Script) (cs : List ℕ) (n : ℕ) → (run P Z cs n).now ≡ n
now_run P Z cs zero = refl
now_run P Z cs (suc n) = ap suc (now_moment P Z (get_or cs (length (grants_of (run P Z cs n).events)) 0) (run P Z cs n) ∙ now_run P Z cs n)

pub quiet_run : AQuietMomentChangesNothing
quiet_run plan script choices n from to port g quiet =
    let ok = allowed plan script g.lawful in
    quiet_moment plan script g.sound ok from.limit from (run plan script choices n) to
    (steady_run plan script g.sound ok from g.ports g.idle choices n to (keeps g.turns)) quiet port

-- one tick further
jump_on : (plan : Plan) (script : Script) (choices : List ℕ) (n : ℕ) (from to : Meaning) → AllowedRun plan script choices n from to
    → (u : ℕ) → run plan script choices u ≡ at_moment u (run plan script choices n) → Quiet script (at_moment u (run plan script choices n))
    → run plan script choices (suc u) ≡ at_moment (suc u) (run plan script choices n)
jump_on plan script choices n from to g u ih quiet = ap tick (still ∙ ih)
  where
    g' : AllowedRun plan script choices u from to
    g' = record {
      sound = g.sound;
      lawful = g.lawful;
      ports = g.ports;
      idle = g.idle;
      turns = subst (λ (T : State). RuleCourse from T.events to) (sym ih) g.turns;
    }

    still : moment plan script (get_or choices (length (grants_of (run plan script choices u).events)) 0) (run plan script choices u) ≡ run plan script choices u
    still = quiet_run plan script choices u from to (get_or choices (length (grants_of (run plan script choices u).events)) 0) g'
        (subst (Quiet script) (sym ih) quiet)

jump : (plan : Plan) (script : Script) (choices : List ℕ) (n : ℕ) (from to : Meaning) → AllowedRun plan script choices n from to
    → (d t : ℕ) → t ≡ n + d → ((s : ℕ) → n ≤ s → s < t → Quiet script (at_moment s (run plan script choices n)))
    → run plan script choices t ≡ at_moment t (run plan script choices n)
jump plan script choices n from to g zero t e quiet =
    let u : t ≡ n = omega arith in
    subst (λ s. run plan script choices s ≡ at_moment s (run plan script choices n)) (sym u)
    (subst (λ s. run plan script choices n ≡ at_moment s (run plan script choices n)) (now_run plan script choices n) refl)
jump plan script choices n from to g (suc d) t e quiet =
    let e' : t ≡ suc (n + d) = omega arith in
    subst (λ s. run plan script choices s ≡ at_moment s (run plan script choices n)) (sym e')
    (jump_on plan script choices n from to g (n + d)
    (jump plan script choices n from to g d (n + d) refl (λ s a b. quiet s a (omega arith)))
    (quiet (n + d) (omega arith) (omega arith)))

pub time_may_jump : TimeMayJump
time_may_jump plan script choices n t from to le g quiet = jump plan script choices n from to g (t - n) t (omega arith) quiet
