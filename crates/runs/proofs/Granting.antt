-- Step 4.
use Rattle.std.proofs.Common.{◌≡◌, ℕ, ◌<◌, eqb, ◌⊎◌, List, ◌∷◌, length, get_or, set, Some, sym, refl, ap, ◌∙◌, subst, inl, inr, arith}
use Rattle.std.proofs.lemmas.Bool.{eq-eqb, ne_eqb, cond-true, cond-false}
use Rattle.tasks.specs.declared.refusal.Refusal.{Refusal}
use Rattle.argument.specs.Plans.{Plan}
use Rattle.bus.specs.Turns.{Meaning}
use Rattle.bus.specs.Turns as Bus
use Rattle.bus.specs.Means.{Means, Laws, GrantRefused}
use Rattle.bus.specs.Courses.{grants, Course}
use Rattle.bridge.specs.States.{State, job_of}
use Rattle.bridge.specs.Moments.{fetching, returning, grant_a, grant_r, grant_at, granting}
use Rattle.bridge.proofs.Cells.{phase, at, at_some}
use Rattle.bridge.proofs.Moves.{Inv}
use Rattle.bridge.proofs.Steps.{asked}
use Rattle.bridge.proofs.Ties.{granted_is, nobody_waits, in_service_lem}
use Rattle.runs.specs.declared.rows.Job.{Job}
use Rattle.runs.specs.declared.rows.LogRow.{LogRow}
use Rattle.runs.specs.declared.stage.Turn.{Turn}
use Rattle.runs.specs.declared.stage.Turn.TheVariants.{First, Last}
use Rattle.runs.specs.declared.stage.Stage.{Stage}
use Rattle.runs.specs.declared.stage.Stage.TheVariants.{Idle, Waiting, A, E, R}
use Rattle.runs.specs.declared.stage.Event.TheVariants.{Granted}
use Rattle.runs.specs.Machine.{job, number, none, onward, served}
use Rattle.runs.specs.Pool.{Pool}
use Rattle.runs.specs.Shown.{Shows, At, Granting, script_of, shown, no_job}
use Rattle.runs.proofs.Going.{at_ok, at_good, at_keeps, at_stands, at_inv, at_core}
use Rattle.runs.proofs.Showing.{shows_on, rows_set}
use Rattle.runs.proofs.Pools.{pool_on}

module _ {X : Type 0} {B : Means X} (laws : Laws B) {P : Plan} {J : List Job} {x y : X} {time : ℕ} {stages : List Stage} {marks : Pool} {log : List LogRow} {S : State}
    (h : At B P J x y time stages marks log S) where
  inv : Inv P (script_of J) (B.meaning x).limit S (B.meaning y)
  inv = at_inv laws h

  still : (p : ℕ) → granting P (script_of J) p S ≡ S → Granting B P J x y time stages marks log S
  still p e = record { port = p; course = subst (λ (T : State). Course B x T.events y) (sym e) h.course; shows = subst (Shows P J time stages marks log) (sym e) h.shows }

  -- nobody is granted
  pub granted_none : (e : Refusal) → GrantRefused (B.meaning y) e → Granting B P J x y time stages marks log S
  granted_none e (inl r) = still 0 (nobody_waits P (script_of J) h.sound (at_ok laws h) (B.meaning x).limit S (B.meaning y) inv 0 r.1)
  granted_none e (inr r) = still 0 (in_service_lem P (script_of J) h.sound (at_ok laws h) (B.meaning x).limit S (B.meaning y) inv 0 r.2.0 r.2.1)

  module _ (p : ℕ) (y' : X) (q : B.grants y p y') where
    G : Bus.Granted (B.meaning y) p (B.meaning y')
    G = (laws.granting y p y' (at_stands laws h) q).0

    l : p < length stages
    l = omega (arith, G.port, inv.bus.ports, h.cores)

    is : granting P (script_of J) p S ≡ grant_at (script_of J) S p (S.has p)
    is = granted_is P (script_of J) h.sound (at_ok laws h) (B.meaning x).limit S (B.meaning y) inv p (B.meaning y') G

    -- the port that is granted has a core that waits
    pub granted_waits : (s : Stage) → get_or stages p Idle ≡ s → ((t : Turn) (k : ℕ) → s ≡ Waiting t k → ⊥) → ⊥
    granted_waits s e no' =
        let a = asked P (script_of J) h.sound (at_ok laws h) (B.meaning x) S p (at_good laws h) (B.meaning y) (B.meaning y') (at_keeps laws h) G in
        let n : number s ≡ at a.0 = sym (ap number e) ∙ sym (h.shows.phase p a.1 l a.2) ∙ a.3 in
        go s (at_some a.0) n no' (sym (ap job e) ∙ h.shows.has p l ∙ a.2)
      where
        go : (s : Stage) {n : ℕ} → ((n ≡ 1) ⊎ (n ≡ 4)) → number s ≡ n → ((t : Turn) (k : ℕ) → s ≡ Waiting t k → ⊥) → {k : ℕ} → job s ≡ Some k → ⊥
        go Idle d n no' j = omega arith
        go (Waiting t k) d n no' j = no' t k refl
        go (A k) d n no' j = omega arith
        go (E k) d n no' j = omega arith
        go (R k) d n no' j = omega arith

    pub granted_some : (t : Turn) (k : ℕ) → get_or stages p Idle ≡ Waiting t k → k < length log
        → Granting B P J x y' time (set stages p (onward (Waiting t k) Granted)) marks (set log k (served t (get_or J k no_job) time (get_or log k none))) S
    granted_some First k e kl =
        let core = at_core laws h p l e refl in
        let v : granting P (script_of J) p S ≡ grant_a (script_of J) S p k = is ∙ ap (grant_at (script_of J) S p) core.has ∙ cond-true (eqb (phase (S.cell k)) 1) (grant_a (script_of J) S p k) (grant_r (script_of J) S p k) (eq-eqb (phase (S.cell k)) 1 core.in_phase) in
        record {
          port = p;
          course = subst (λ (T : State). Course B x T.events y') (sym v) (Course.grant h.course q);
          shows = subst (Shows P J time (set stages p (A k)) marks (set log k (served First (get_or J k no_job) time (get_or log k none)))) (sym v)
              (shows_on h.shows inv.cores p k (A k) (fetching S.now ((script_of J).row k).a ((script_of J).row k).e (S.cell k)) S.has (grants p ∷ S.events) marks (set log k (served First (get_or J k no_job) time (get_or log k none))) l core.same (sym core.has) (λ d ne. refl)
              (λ j u. (cc, refl))
              (rows_set h.shows inv.cores k (fetching S.now ((script_of J).row k).a ((script_of J).row k).e (S.cell k)) (served First (get_or J k no_job) time (get_or log k none)) kl
              (ap (served First (get_or J k no_job) time) core.row ∙ ap (λ t. served First (get_or J k no_job) t (shown P (job_of (script_of J) k (S.cell k)))) h.shows.now))
              (pool_on h.shows.pooled k (fetching S.now ((script_of J).row k).a ((script_of J).row k).e (S.cell k)) (omega arith) (omega arith)));
        }
    granted_some Last k e kl =
        let core = at_core laws h p l e refl in
        let v : granting P (script_of J) p S ≡ grant_r (script_of J) S p k = is ∙ ap (grant_at (script_of J) S p) core.has ∙ cond-false (eqb (phase (S.cell k)) 1) (grant_a (script_of J) S p k) (grant_r (script_of J) S p k) (ne_eqb (phase (S.cell k)) 1 (λ u. omega arith)) in
        record {
          port = p;
          course = subst (λ (T : State). Course B x T.events y') (sym v) (Course.grant h.course q);
          shows = subst (Shows P J time (set stages p (R k)) marks (set log k (served Last (get_or J k no_job) time (get_or log k none)))) (sym v)
              (shows_on h.shows inv.cores p k (R k) (returning S.now ((script_of J).row k).r (S.cell k)) S.has (grants p ∷ S.events) marks (set log k (served Last (get_or J k no_job) time (get_or log k none))) l core.same (sym core.has) (λ d ne. refl)
              (λ j u. (cc, refl))
              (rows_set h.shows inv.cores k (returning S.now ((script_of J).row k).r (S.cell k)) (served Last (get_or J k no_job) time (get_or log k none)) kl
              (ap (served Last (get_or J k no_job) time) core.row ∙ ap (λ t. served Last (get_or J k no_job) t (shown P (job_of (script_of J) k (S.cell k)))) h.shows.now))
              (pool_on h.shows.pooled k (returning S.now ((script_of J).row k).r (S.cell k)) (omega arith) (omega arith)));
        }

    -- the core of the port is read at i, the port's index
    module _ (i : ℕ) (at_port : i ≡ p) where
      here : get_or stages p Idle ≡ get_or stages i Idle
      here = ap (λ j. get_or stages j Idle) (sym at_port)

      pub granted_must : ((t : Turn) (k : ℕ) → get_or stages i Idle ≡ Waiting t k → ⊥) → ⊥
      granted_must none_waits = granted_waits (get_or stages i Idle) here none_waits

      pub granted_at : length log ≡ length J → (t : Turn) (k : ℕ) (s : Stage) (row : LogRow) → get_or stages i Idle ≡ Waiting t k → s ≡ onward (get_or stages i Idle) Granted
          → row ≡ served t (get_or J k no_job) time (get_or log k none) → Granting B P J x y' time (set stages i s) marks (set log k row) S
      granted_at rows t k s row e f w =
          let known = (inv.cores.holds p k (sym (h.shows.has p l) ∙ ap job (here ∙ e))).known in
          rw (at_port, w, f, e) (granted_some t k (here ∙ e) (omega arith))
