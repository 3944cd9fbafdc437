-- The state of a run at a moment: the time, how far each job is, which job each core has, and what the arbiter was told. Assumes nothing.
use Rattle.std.specs.Prelude.{◌≡◌, ℕ, ◌<◌, cond, List, [], None, Option, ◌==◌}
use Rattle.argument.specs.Logs.{Job, Log}
use Rattle.bus.specs.Courses.{Event}
use Rattle.bridge.specs.Scripts.{Script}
use Rattle.bridge.specs.Stages.{Stage, unstarted, over}

-- A job so far: its stage, and the part of its log row that is known. An end is known as soon as the phase before it is granted.
pub record Cell : Type 0 where
  pub stage : Stage
  -- known once it waits for A
  pub start : ℕ
  -- known once it is in A
  pub a_granted : ℕ
  pub a_end : ℕ
  pub e_end : ℕ
  -- known once it is in R
  pub r_granted : ℕ
  pub end : ℕ

pub record State : Type 0 where
  -- the moment
  pub now : ℕ
  -- the jobs, by their rows in the script
  pub cell : ℕ → Cell
  -- the job that a core has; none: the core is idle
  pub has : ℕ → Option ℕ
  -- what the arbiter was told and what it granted, the latest first
  pub events : List Event

-- what a function becomes when it has another value at k
abbrev pub put : {X : Type 0} → (ℕ → X) → ℕ → X → ℕ → X
put f k x j = cond (j == k) x (f j)

-- a job of which nothing is known
abbrev pub blank : Cell
blank = record { stage = unstarted; start = 0; a_granted = 0; a_end = 0; e_end = 0; r_granted = 0; end = 0 }

-- before moment 0
abbrev pub begun : State
begun = record { now = 0; cell = λ k. blank; has = λ core. None; events = [] }

-- the log row of a job
abbrev pub job_of : Script → ℕ → Cell → Job
job_of script k x = record {
  task = (script.row k).task;
  release = (script.row k).release;
  start = x.start;
  a_granted = x.a_granted;
  a_end = x.a_end;
  e_end = x.e_end;
  r_granted = x.r_granted;
  end = x.end;
}

-- the log, in script order
abbrev pub log_of : Script → State → Log
log_of script state = record { size = script.size; job = λ k. job_of script k (state.cell k) }

-- every job has ended
abbrev pub Complete : Script → State → Type 0
Complete script state = (k : ℕ) → k < script.size → (state.cell k).stage ≡ over
