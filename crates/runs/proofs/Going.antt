-- An arbiter's course, and what it gives of the state that was reached.
use Rattle.std.proofs.Common.{◌≡◌, ℕ, ◌<◌, List, length, get_or, Some, sym, refl, ap, ◌∙◌}
use Rattle.argument.specs.Plans.{Plan, SoundPlan}
use Rattle.bus.specs.Turns.{Meaning, Idle as Quiet}
use Rattle.bus.specs.Means.{Means, Laws}
use Rattle.bus.specs.Courses.{Course}
use Rattle.bus.proofs.Courses.{keeps_rule}
use Rattle.bridge.specs.Scripts.{Script, core_at}
use Rattle.bridge.specs.States.{State, job_of}
use Rattle.bridge.proofs.Allowed.{Allowed, allowed}
use Rattle.bridge.proofs.Kept.{Keeps, keeps}
use Rattle.bridge.proofs.Steps.{fine_finish, fine_act}
use Rattle.bridge.proofs.Ticks.{good_run}
use Rattle.bridge.proofs.Cells.{phase}
use Rattle.bridge.proofs.Moves.{Inv, Good}
use Rattle.runs.specs.declared.rows.Job.{Job}
use Rattle.runs.specs.declared.rows.LogRow.{LogRow}
use Rattle.runs.specs.declared.stage.Stage.{Stage}
use Rattle.runs.specs.declared.stage.Stage.TheVariants.{Idle}
use Rattle.runs.specs.Machine.{job, number, none}
use Rattle.runs.specs.Pool.{Pool}
use Rattle.runs.specs.Shown.{At, Shows, script_of, shown, Reached, after, finishing, acting}

pub good_reached : (P : Plan) (Z : Script) (sound : SoundPlan P) (ok : Allowed P Z) (m : Meaning) → m.ports ≡ P.cores → Quiet m → (S : State) → Reached P Z S → Good P Z ok m S
good_reached P Z sound ok m ports idle _ (after cs n) = good_run P Z sound ok m ports idle cs n
good_reached P Z sound ok m ports idle _ (finishing S c r) = fine_finish P Z sound ok m S c (good_reached P Z sound ok m ports idle S r) (S.has c) refl
good_reached P Z sound ok m ports idle _ (acting S c r) = fine_act P Z sound ok m S c (good_reached P Z sound ok m ports idle S r) (S.has c) refl

module _ {X : Type 0} {B : Means X} (laws : Laws B) {P : Plan} {J : List Job} {x y : X} {time : ℕ} {stages : List Stage} {pool : Pool} {log : List LogRow} {S : State}
    (h : At B P J x y time stages pool log S) where
  pub at_ok : Allowed P (script_of J)
  at_ok = allowed P (script_of J) h.lawful

  pub at_good : Good P (script_of J) at_ok (B.meaning x) S
  at_good = good_reached P (script_of J) h.sound at_ok (B.meaning x) h.ports h.idle S h.reached

  pub at_stands : B.stands y
  at_stands = (keeps_rule B laws x S.events y h.stood h.course).1

  pub at_keeps : Keeps (B.meaning x) S.events (B.meaning y)
  at_keeps = keeps (keeps_rule B laws x S.events y h.stood h.course).0

  pub at_inv : Inv P (script_of J) (B.meaning x).limit S (B.meaning y)
  at_inv = at_good (B.meaning y) at_keeps

  -- the state, the values and the arbiter go on
  pub at_on : {y' : X} {time' : ℕ} {stages' : List Stage} {pool' : Pool} {log' : List LogRow} {T : State} → length stages' ≡ length stages → Reached P (script_of J) T
      → Course B x T.events y' → Shows P J time' stages' pool' log' T → At B P J x y' time' stages' pool' log' T
  at_on e g p s =
      record { sound = h.sound; lawful = h.lawful; fetched = h.fetched; stood = h.stood; ports = h.ports; idle = h.idle; cores = e ∙ h.cores; reached = g; course = p; shows = s }

-- what is known of core c, whose stage s has the job k
pub record AtCore (P : Plan) (J : List Job) (log : List LogRow) (S : State) (c k : ℕ) (s : Stage) : Type 0 where
  pub has : S.has c ≡ Some k
  pub in_phase : phase (S.cell k) ≡ number s
  pub known : k < length J
  pub same : core_at P (script_of J) k ≡ c
  pub row : get_or log k none ≡ shown P (job_of (script_of J) k (S.cell k))

pub at_core : {X : Type 0} {B : Means X} (laws : Laws B) {P : Plan} {J : List Job} {x y : X} {time : ℕ} {stages : List Stage} {pool : Pool} {log : List LogRow} {S : State}
    → At B P J x y time stages pool log S → (c : ℕ) → c < length stages → {k : ℕ} {s : Stage} → get_or stages c Idle ≡ s → job s ≡ Some k → AtCore P J log S c k s
at_core laws h c l {k} e j =
    let has = sym (h.shows.has c l) ∙ ap job e ∙ j in
    let o = (at_inv laws h).cores.holds c k has in
    record { has = has; in_phase = h.shows.phase c k l has ∙ ap number e; known = o.known; same = o.same; row = h.shows.row k o.known }
