-- What is proved of every run: each statement here stands on the contract of a public function of this crate. Assumes nothing.
use Rattle.std.specs.Prelude.{◌≡◌, ℕ, ◌<◌, ◌≤◌, ◌⊎◌, List, ◌≢◌}
use Rattle.tasks.specs.Limits.{Limit}
use Rattle.argument.specs.Plans.{Plan, SoundPlan}
use Rattle.argument.specs.Logs.{Log, Turn, granted, ended, KeepsTheLaws, EndsWithin}
use Rattle.argument.specs.Theorems.{AllCovered}
use Rattle.bus.specs.Turns.{Meaning, Idle}
use Rattle.bus.specs.Means.{Means}
use Rattle.bus.specs.Courses.{Event, Course, RuleCourse}
use Rattle.bridge.specs.Scripts.{Script, LawfulScript}
use Rattle.bridge.specs.Stages.{in_A, in_E, in_R, unstarted}
use Rattle.bridge.specs.States.{State, log_of, Complete}
use Rattle.bridge.specs.Moments.{moment}
use Rattle.bridge.specs.Runs.{run, at_moment, grants_of}

-- A run that the rules and the turn rule allow, as far as the moment n: a lawful script of a sound plan, on an arbiter of which only the turn
-- rule is known. It is idle with the meaning `from`, and what it is told and choices leads it to the meaning `to`.
pub record AllowedRun (plan : Plan) (script : Script) (choices : List ℕ) (n : ℕ) (from to : Meaning) : Type 0 where
  pub sound : SoundPlan plan
  pub lawful : LawfulScript plan script
  -- it has a port for each core
  pub ports : from.ports ≡ plan.cores
  pub idle : Idle from
  pub turns : RuleCourse from (run plan script choices n).events to

-- ---- the log

-- the log of every run keeps the laws, with the arbiter's limits
abbrev pub EveryRunKeepsTheLaws : Type 0
EveryRunKeepsTheLaws = (plan : Plan) (script : Script) (choices : List ℕ) (n : ℕ) (from to : Meaning)
    → AllowedRun plan script choices n from to → Complete script (run plan script choices n)
    → KeepsTheLaws plan from.limit (log_of script (run plan script choices n))

-- of two turns of different jobs one has ended when the other is granted; those of one job follow each other by its possible moments
abbrev pub OnePhaseAtATime : Log → Type 0
OnePhaseAtATime log = (turn turn' : Turn) (j k : ℕ) → j < log.size → k < log.size → (j ≢ k)
    → (ended turn (log.job j) ≤ granted turn' (log.job k)) ⊎ (ended turn' (log.job k) ≤ granted turn (log.job j))

abbrev pub TheBusCarriesOnePhaseAtATime : Type 0
TheBusCarriesOnePhaseAtATime = (plan : Plan) (script : Script) (choices : List ℕ) (n : ℕ) (from to : Meaning)
    → AllowedRun plan script choices n from to → Complete script (run plan script choices n)
    → OnePhaseAtATime (log_of script (run plan script choices n))

-- the arbiter's choices fix the log: two runs of one script in which the same ports are granted in the same order have the same rows
abbrev pub TheLogIsSingle : Type 0
TheLogIsSingle = (plan : Plan) (script : Script) (choices choices' : List ℕ) (n n' : ℕ) (from to from' to' : Meaning)
    → AllowedRun plan script choices n from to → Complete script (run plan script choices n)
    → AllowedRun plan script choices' n' from' to' → Complete script (run plan script choices' n')
    → grants_of (run plan script choices n).events ≡ grants_of (run plan script choices' n').events
    → (k : ℕ) → k < script.size → (log_of script (run plan script choices n)).job k ≡ (log_of script (run plan script choices' n')).job k

-- an arbiter leaves no choice from s on: which port it grants follows from what happened since
abbrev pub Picks : {X : Type 0} → Means X → X → (List Event → ℕ) → Type 0
Picks {X} means s pick = (es : List Event) (port : ℕ) (t u : X) → Course means s es t → means.grants t port u → port ≡ pick es

-- then the grants are the only ones: two runs of one script on such arbiters are the same at every moment
abbrev pub PickedGrantsAreTheOnlyOnes : {X : Type 0} → Means X → Type 0
PickedGrantsAreTheOnlyOnes {X} means = (plan : Plan) (script : Script) (pick : List Event → ℕ) (s s' : X) → Picks means s pick → Picks means s' pick
    → (choices choices' : List ℕ) (n : ℕ) (t t' : X)
    → Course means s (run plan script choices n).events t → Course means s' (run plan script choices' n).events t'
    → run plan script choices n ≡ run plan script choices' n

-- ---- the end

-- every run ends: by some moment, whatever the arbiter, every job has ended
abbrev pub EveryRunEnds : Type 0
EveryRunEnds = (plan : Plan) (script : Script)
    → (last : ℕ) × ((choices : List ℕ) (n : ℕ) (from to : Meaning) → last ≤ n → AllowedRun plan script choices n from to → Complete script (run plan script choices n))

-- ---- the jump

-- something is due of the job k: it is released at this moment, or its phase ends
abbrev pub Due : Script → State → ℕ → Type 0
Due script S k =
    (((S.cell k).stage ≡ unstarted) × ((script.row k).release ≡ S.now))
    ⊎ ((((S.cell k).stage ≡ in_A) × ((S.cell k).a_end ≡ S.now))
    ⊎ ((((S.cell k).stage ≡ in_E) × ((S.cell k).e_end ≡ S.now))
    ⊎ (((S.cell k).stage ≡ in_R) × ((S.cell k).end ≡ S.now))))

-- nothing is due of any job
abbrev pub Quiet : Script → State → Type 0
Quiet script S = (k : ℕ) → k < script.size → Due script S k → ⊥

-- a moment at which nothing is due changes nothing
abbrev pub AQuietMomentChangesNothing : Type 0
AQuietMomentChangesNothing = (plan : Plan) (script : Script) (choices : List ℕ) (n : ℕ) (from to : Meaning) (port : ℕ)
    → AllowedRun plan script choices n from to → Quiet script (run plan script choices n)
    → moment plan script port (run plan script choices n) ≡ run plan script choices n

-- so that time may jump from one moment to the next at which something is due
abbrev pub TimeMayJump : Type 0
TimeMayJump = (plan : Plan) (script : Script) (choices : List ℕ) (n t : ℕ) (from to : Meaning) → n ≤ t
    → AllowedRun plan script choices n from to
    → ((s : ℕ) → n ≤ s → s < t → Quiet script (at_moment s (run plan script choices n)))
    → run plan script choices t ≡ at_moment t (run plan script choices n)

-- ---- within the windows

-- the arbiter's limits between two different ports are these
abbrev pub HasLimits : (ℕ → ℕ → Limit) → Meaning → Type 0
HasLimits limits m = (a b : ℕ) → a < m.ports → b < m.ports → (b ≢ a) → m.limit a b ≡ limits a b

-- If every task has a window for the limits, then every job of every run, of a lawful script of any number of rows, on an arbiter with those
-- limits that keeps the turn rule, from any idle value that stands, whatever it granted before, has ended by some moment, and ended within its window.
abbrev pub EveryJobOfEveryRunEndsWithinItsWindow : {X : Type 0} → Means X → Type 0
EveryJobOfEveryRunEndsWithinItsWindow {X} means =
    (plan : Plan) (limits : ℕ → ℕ → Limit) (windows : ℕ → ℕ) → SoundPlan plan → AllCovered plan limits windows
    → (script : Script) → LawfulScript plan script
    → (last : ℕ) × ((s : X) (choices : List ℕ) (n : ℕ) (t : X)
    → means.stands s → Idle (means.meaning s) → (means.meaning s).ports ≡ plan.cores → HasLimits limits (means.meaning s)
    → last ≤ n → Course means s (run plan script choices n).events t
    → Complete script (run plan script choices n) × EndsWithin windows (log_of script (run plan script choices n)))
