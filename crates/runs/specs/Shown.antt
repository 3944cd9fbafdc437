-- How the values of the program show a state of a run. Assumes nothing.
use Rattle.std.specs.Prelude.{◌≡◌, ℕ, ◌<◌, ◌≤◌, List, length, get_or, Some, slice_index_or}
use Rattle.argument.specs.Plans.{Plan, SoundPlan}
use Rattle.argument.specs.Logs as Logs
use Rattle.bus.specs.Turns.{Idle as Quiet}
use Rattle.bus.specs.Means.{Means}
use Rattle.bus.specs.Courses.{Course}
use Rattle.bridge.specs.Scripts.{Script, task_at, core_at, LawfulScript}
use Rattle.bridge.specs.Stages as Stages
use Rattle.bridge.specs.States.{State, job_of, Complete}
use Rattle.bridge.specs.Moments.{finish_at, act_at, granting}
use Rattle.bridge.specs.Runs.{run}
use Rattle.runs.specs.declared.rows.Job.{Job}
use Rattle.runs.specs.declared.rows.LogRow.{LogRow}
use Rattle.runs.specs.declared.stage.Stage.{Stage}
use Rattle.runs.specs.declared.stage.Stage.TheVariants.{Idle}
use Rattle.runs.specs.Machine.{job, number, none, Inside, Inside_prop}
use Rattle.runs.specs.Pool.{Pool, Pooled}

abbrev pub no_job : Job
no_job = record { task = 0; id = 0; core = 0; rank = 0; release = 0; a = 0; e = 0; r = 0 }

-- the script that the jobs were looked up from
abbrev pub script_of : List Job → Script
script_of jobs = record {
  size = length jobs;
  row = λ k. record { task = (get_or jobs k no_job).task; release = (get_or jobs k no_job).release; a = (get_or jobs k no_job).a; e = (get_or jobs k no_job).e; r = (get_or jobs k no_job).r };
}

-- what was looked up is what the plan says
pub record Fetched (plan : Plan) (jobs : List Job) (k : ℕ) : Type 0 where
  pub id : (get_or jobs k no_job).id ≡ (task_at plan (script_of jobs) k).id
  pub core : (get_or jobs k no_job).core ≡ core_at plan (script_of jobs) k
  pub rank : (get_or jobs k no_job).rank ≡ (task_at plan (script_of jobs) k).rank

-- a log row as the program writes it
abbrev pub shown : Plan → Logs.Job → LogRow
shown plan x = record {
  id = (Logs.row_of plan x).id;
  release = x.release;
  start = x.start;
  a_granted = x.a_granted;
  a_end = x.a_end;
  e_end = x.e_end;
  r_granted = x.r_granted;
  end = x.end;
}

pub record Shows (plan : Plan) (jobs : List Job) (time : ℕ) (stages : List Stage) (pool : Pool) (log : List LogRow) (S : State) : Type 0 where
  pub now : time ≡ S.now
  pub row : (k : ℕ) → k < length jobs → slice_index_or log k none ≡ shown plan (job_of (script_of jobs) k (S.cell k))
  pub has : (c : ℕ) → c < length stages → job (slice_index_or stages c Idle) ≡ S.has c
  pub phase : (c k : ℕ) → c < length stages → S.has c ≡ Some k → Stages.number (S.cell k).stage ≡ number (slice_index_or stages c Idle)
  pub pooled : Pooled plan (script_of jobs) pool S

abbrev pub AllInside : ℕ → List Stage → Type 0
AllInside n stages = (c : ℕ) → c < length stages → Inside n (slice_index_or stages c Idle)

-- which holds in one way only, so that it may stand in a type
pub AllInside_prop : (n : ℕ) (stages : List Stage) → IsProp (AllInside n stages)
AllInside_prop n stages x y = λ i c l. Inside_prop n (slice_index_or stages c Idle) (x c l) (y c l) i

-- the states of a run, also those inside the first steps of a moment
pub data Reached (plan : Plan) (script : Script) : State → Type 0 where
  after : (choices : List ℕ) (n : ℕ) → Reached plan script (run plan script choices n)
  finishing : (S : State) (c : ℕ) → Reached plan script S → Reached plan script (finish_at S c (S.has c))
  acting : (S : State) (c : ℕ) → Reached plan script S → Reached plan script (act_at plan script S c (S.has c))

-- The arbiter came from x, where it was idle, to y; the program's values show S.
pub record At {X : Type 0} (means : Means X) (plan : Plan) (jobs : List Job) (x y : X) (time : ℕ) (stages : List Stage) (pool : Pool) (log : List LogRow) (S : State) : Type 0 where
  pub sound : SoundPlan plan
  pub lawful : LawfulScript plan (script_of jobs)
  pub fetched : (k : ℕ) → k < length jobs → Fetched plan jobs k
  pub stood : means.stands x
  pub ports : (means.meaning x).ports ≡ plan.cores
  pub idle : Quiet (means.meaning x)
  pub cores : length stages ≡ plan.cores
  pub reached : Reached plan (script_of jobs) S
  pub course : Course means x S.events y
  pub shows : Shows plan jobs time stages pool log S

-- what the grant of some port makes of S, if it makes anything
pub record Granting {X : Type 0} (means : Means X) (plan : Plan) (jobs : List Job) (x y : X) (time : ℕ) (stages : List Stage) (pool : Pool) (log : List LogRow) (S : State) : Type 0 where
  pub port : ℕ
  pub course : Course means x (granting plan (script_of jobs) port S).events y
  pub shows : Shows plan jobs time stages pool log (granting plan (script_of jobs) port S)

-- no phase is longer than ten million, and no release is past 2^40
abbrev pub Short : List Job → Type 0
Short jobs = (k : ℕ) → k < length jobs → ((get_or jobs k no_job).a ≤ 10000000) × ((get_or jobs k no_job).e ≤ 10000000) × ((get_or jobs k no_job).r ≤ 10000000)

-- from the row `upto` on nothing is released yet
abbrev pub AllReleased : List Job → ℕ → ℕ → Type 0
AllReleased jobs time upto = (k : ℕ) → upto ≤ k → k < length jobs → time < (get_or jobs k no_job).release

-- The arbiter went from x to y along its own account of a whole run, whose rows the log has.
pub record Ran {X : Type 0} (means : Means X) (plan : Plan) (script : Script) (x y : X) (log : List LogRow) : Type 0 where
  -- the ports that were granted, in their order, and the moment after the last that mattered
  pub choices : List ℕ
  pub n : ℕ
  pub course : Course means x (run plan script choices n).events y
  pub whole : Complete script (run plan script choices n)
  pub rows : (k : ℕ) → k < script.size → slice_index_or log k none ≡ shown plan (job_of script k ((run plan script choices n).cell k))
