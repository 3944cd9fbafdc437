-- The run of the three-task box on the queue computes.
use Rattle.std.proofs.Common.{◌≡◌, ℕ, zero, suc, ◌-◌, ◌<◌, ◌≤◌, List, [], ◌∷◌, sym, refl, ap, ◌∙◌, subst, arith}
use Rattle.argument.specs.Samples.{box, first_jobs}
use Rattle.bus.specs.Courses.{Event, joins, grants, ends}
use Rattle.bus.specs.Courses.{RuleCourse}
use Rattle.bus.proofs.Courses.{keeps_rule}
use Rattle.queue.specs.Account.{queue_means, queue_meaning}
use Rattle.queue.specs.Laws.{queue_laws}
use Rattle.argument.specs.Plans.{SoundPlan}
use Rattle.argument.proofs.Checks.{sound_plan}
use Rattle.bridge.specs.Scripts.{LawfulRow, LawfulScript}
use Rattle.bridge.specs.Stages.{over, number}
use Rattle.bridge.specs.States.{State, job_of, log_of, Complete}
use Rattle.bridge.specs.Runs.{run}
use Rattle.bridge.proofs.Allowed.{allowed}
use Rattle.bridge.proofs.Kept.{keeps}
use Rattle.bridge.proofs.Cells.{phase}
use Rattle.bridge.proofs.Staged.{same_stage}
use Rattle.bridge.proofs.Onward.{Grows}
use Rattle.bridge.proofs.Ticks.{good_run}
use Rattle.bridge.proofs.Single.{grown, same_row}
use Rattle.bridge.proofs.Picked.{Followed, followed, followed_less, same_run, longer_run}
use Rattle.queue_runs.proofs.Lines.{picks}
use Rattle.queue_runs.specs.Queued.{front, line_after}
use Rattle.queue_runs.specs.Box.{all_at_0, TheLogOfTheBoxOnTheQueue}

abbrev first_come : List ℕ
first_come = 0 ∷ 1 ∷ 0 ∷ 0 ∷ 1 ∷ 0 ∷ []

abbrev told : List Event
told = ends ∷ grants 0 ∷ joins 0 ∷ ends ∷ grants 1 ∷ joins 1 ∷ ends ∷ grants 0 ∷ joins 0 ∷ ends ∷ grants 0 ∷ joins 0 ∷ ends ∷ grants 1 ∷ ends ∷ grants 0 ∷ joins 1 ∷ joins 0 ∷ []

tells : (run (box 50) all_at_0 first_come 20).events ≡ told
tells = refl

abbrev last : State
last = run (box 50) all_at_0 first_come 20

one : last.cell 0 ≡ record { stage = over; start = 0; a_granted = 0; a_end = 2; e_end = 7; r_granted = 7; end = 8 }
one = refl

two : last.cell 1 ≡ record { stage = over; start = 8; a_granted = 8; a_end = 11; e_end = 17; r_granted = 17; end = 19 }
two = refl

three : last.cell 2 ≡ record { stage = over; start = 0; a_granted = 2; a_end = 6; e_end = 14; r_granted = 14; end = 16 }
three = refl

abbrev pick : List Event → ℕ
pick es = front (line_after es)

in_turn : Followed pick told
in_turn = (refl, (refl, (refl, (refl, (refl, (refl, tt))))))

below_three : (F : ℕ → Type 0) → F 0 → F 1 → F 2 → (k : ℕ) → k < 3 → F k
below_three F x y z zero l = x
below_three F x y z (suc zero) l = y
below_three F x y z (suc (suc zero)) l = z
below_three F x y z (suc (suc (suc k))) l = absurd (nothing k l)
  where
    nothing : (k : ℕ) → suc (suc (suc k)) < 3 → ⊥
    nothing k l = omega arith

fair : LawfulScript (box 50) all_at_0
fair = below_three (LawfulRow (box 50) all_at_0) row_0 row_1 row_2
  where
    apart : (n j k : ℕ) → j < k → j ≡ k → n ≤ 0
    apart n j k l e = absurd (omega arith)

    row_0 : LawfulRow (box 50) all_at_0 0
    row_0 = record { known = omega arith; early = omega arith; some_a = omega arith; most_a = omega arith; some_e = omega arith; most_e = omega arith; some_r = omega arith; most_r = omega arith; rising = λ j l. omega arith; spaced = λ j l e. apart 40 j 0 l e }

    row_1 : LawfulRow (box 50) all_at_0 1
    row_1 = record { known = omega arith; early = omega arith; some_a = omega arith; most_a = omega arith; some_e = omega arith; most_e = omega arith; some_r = omega arith; most_r = omega arith; rising = λ j l. omega arith; spaced = λ j l e. apart 60 j 1 l e }

    row_2 : LawfulRow (box 50) all_at_0 2
    row_2 = record { known = omega arith; early = omega arith; some_a = omega arith; most_a = omega arith; some_e = omega arith; most_e = omega arith; some_r = omega arith; most_r = omega arith; rising = λ j l. omega arith; spaced = λ j l e. apart 50 j 2 l e }

sound : SoundPlan (box 50)
sound = sound_plan (box 50) refl

rows : (k : ℕ) → k < 3 → job_of all_at_0 k (last.cell k) ≡ first_jobs.job k
rows = below_three (λ k. job_of all_at_0 k (last.cell k) ≡ first_jobs.job k) refl refl refl

stages : (k : ℕ) → k < 3 → (last.cell k).stage ≡ over
stages = below_three (λ k. (last.cell k).stage ≡ over) refl refl refl

squeeze : (a b : ℕ) → a ≡ 6 → a ≤ b → b ≤ 6 → b ≡ 6
squeeze a b e h i = omega arith

-- from moment 20 on nothing changes
module _ (choices : List ℕ) (n : ℕ) (late : 20 ≤ n) (same : run (box 50) all_at_0 choices 20 ≡ last)
    (grows : (k : ℕ) → Grows ((run (box 50) all_at_0 choices 20).cell k) ((run (box 50) all_at_0 choices n).cell k))
    (most : (k : ℕ) → k < 3 → phase ((run (box 50) all_at_0 choices n).cell k) ≤ 6) where
  six : (k : ℕ) → k < 3 → phase ((run (box 50) all_at_0 choices 20).cell k) ≡ 6
  six k l = ap (λ (T : State). phase (T.cell k)) same ∙ ap number (stages k l)

  ended : Complete all_at_0 (run (box 50) all_at_0 choices n)
  ended k l = same_stage ((run (box 50) all_at_0 choices n).cell k).stage over
      (squeeze (phase ((run (box 50) all_at_0 choices 20).cell k)) (phase ((run (box 50) all_at_0 choices n).cell k)) (six k l) (grows k).up (most k l))

  written : (k : ℕ) → k < 3 → (log_of all_at_0 (run (box 50) all_at_0 choices n)).job k ≡ first_jobs.job k
  written k l = same_row all_at_0 k ((run (box 50) all_at_0 choices 20).cell k) ((run (box 50) all_at_0 choices n).cell k) (six k l) (grows k)
      ∙ ap (λ (T : State). job_of all_at_0 k (T.cell k)) same ∙ rows k l

pub box_run : TheLogOfTheBoxOnTheQueue
box_run s t choices n idle ports late course = (ended choices n late same grows most, written choices n late same grows most)
  where
    taken : Followed pick (run (box 50) all_at_0 choices 20).events
    taken = followed_less pick (longer_run (box 50) all_at_0 choices 20 (n - 20) n (omega arith)) (followed queue_means s pick (picks s idle) course)

    same : run (box 50) all_at_0 choices 20 ≡ last
    same = same_run (box 50) all_at_0 pick choices first_come 20 taken (subst (Followed pick) (sym tells) in_turn)

    rule : RuleCourse (queue_meaning s) (run (box 50) all_at_0 choices n).events (queue_meaning t)
    rule = (keeps_rule queue_means queue_laws s (run (box 50) all_at_0 choices n).events t tt course).0

    grows : (k : ℕ) → Grows ((run (box 50) all_at_0 choices 20).cell k) ((run (box 50) all_at_0 choices n).cell k)
    grows = grown (box 50) all_at_0 sound (allowed (box 50) all_at_0 fair) (queue_meaning s) ports idle choices 20 (n - 20) n (omega arith) (queue_meaning t) (keeps rule)

    most : (k : ℕ) → k < 3 → phase ((run (box 50) all_at_0 choices n).cell k) ≤ 6
    most k l = ((good_run (box 50) all_at_0 sound (allowed (box 50) all_at_0 fair) (queue_meaning s) ports idle choices n (queue_meaning t) (keeps rule)).fits k l).known
