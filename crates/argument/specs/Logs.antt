-- The log of a finished run, and the laws that it keeps: each can be checked with a pencil. Assumes nothing.
-- Time is counted in ticks: the tick t is the stretch from moment t to moment t + 1.
use Rattle.std.specs.Prelude.{◌≡◌, ℕ, ◌+◌, ◌<◌, ◌≤◌, Bool, ◌&&◌, ◌⊎◌, List, length, ◌==◌, ◌≢◌, nat_lt, slice_index_or}
use Rattle.tasks.specs.declared.task.Row.{Row}
use Rattle.tasks.specs.Limits.{Within, Limit}
use Rattle.argument.specs.Sums.{sum, on}
use Rattle.argument.specs.Plans.{Plan}

-- a row of a log: whose job it is, and its moments in the order in which they come
pub record Job : Type 0 where
  -- the place of its task
  pub task : ℕ
  -- it is there, and ready
  pub release : ℕ
  -- it is put on its core, and joins for its A turn
  pub start : ℕ
  -- the bus takes up its A phase
  pub a_granted : ℕ
  -- its A phase is over, and its E phase begins
  pub a_end : ℕ
  -- its E phase, which needs no bus, is over, and it joins for its R turn
  pub e_end : ℕ
  -- the bus takes up its R phase
  pub r_granted : ℕ
  -- its R turn is over, and it leaves its core
  pub end : ℕ

pub record Log : Type 0 where
  -- the jobs are the numbers below this one
  pub size : ℕ
  -- the row of a job
  pub job : ℕ → Job

-- what stands past the end of a list of rows; nothing looks there
abbrev pub no_job : Job
no_job = record { task = 0; release = 0; start = 0; a_granted = 0; a_end = 0; e_end = 0; r_granted = 0; end = 0 }

-- the log of a list of rows
abbrev pub log_of : List Job → Log
log_of jobs = record { size = length jobs; job = λ k. slice_index_or jobs k no_job }

-- ---- turns: the two stays of a job on the bus

pub data Turn : Type 0 where
  A R : Turn

-- the wait of a turn is from the moment it joined to the moment it was granted, its service from there to its end
abbrev pub joined : Turn → Job → ℕ
joined A job = job.start
joined R job = job.e_end

abbrev pub granted : Turn → Job → ℕ
granted A job = job.a_granted
granted R job = job.r_granted

abbrev pub ended : Turn → Job → ℕ
ended A job = job.a_end
ended R job = job.end

-- the wait of the first turn meets the service of the second: it was granted before the wait was over, and ended after it began
abbrev pub meets : Turn → Job → Turn → Job → Bool
meets turn job turn' job' = nat_lt (granted turn' job') (granted turn job) && nat_lt (joined turn job) (ended turn' job')

-- the row of the job's task, and its core
abbrev pub row_of : Plan → Job → Row
row_of plan job = plan.row job.task

abbrev pub core_of : Plan → Job → ℕ
core_of plan job = (row_of plan job).core

-- how many turns of a core are served while the job's turn waits: the one in service as the wait begins, and every one granted before it ends
abbrev pub met : Plan → Log → Turn → Job → ℕ → ℕ
met plan log turn job core =
    sum log.size (λ j. on (core_of plan (log.job j) == core) (on (meets turn job A (log.job j)) 1 + on (meets turn job R (log.job j)) 1))

-- ---- the laws

-- possible moments: the job is one of a task of the plan, its moments come in their order, and no phase is empty or longer than the task's
pub record Possible (plan : Plan) (job : Job) : Type 0 where
  -- the task is one of the plan
  pub known : job.task < plan.size
  -- it is started when it is ready
  pub starts : job.release ≤ job.start
  -- its A turn waits, perhaps for no time
  pub waits_a : job.start ≤ job.a_granted
  -- its A phase takes 1 tick to a ticks
  pub some_a : job.a_granted < job.a_end
  pub most_a : job.a_end ≤ job.a_granted + (row_of plan job).a
  -- its E phase takes 1 tick to e ticks
  pub some_e : job.a_end < job.e_end
  pub most_e : job.e_end ≤ job.a_end + (row_of plan job).e
  -- its R turn waits, perhaps for no time
  pub waits_r : job.e_end ≤ job.r_granted
  -- its R phase takes 1 tick to r ticks
  pub some_r : job.r_granted < job.end
  pub most_r : job.end ≤ job.r_granted + (row_of plan job).r

abbrev pub PossibleMoments : Plan → Log → Type 0
PossibleMoments plan log = (k : ℕ) → k < log.size → Possible plan (log.job k)

-- spacing: two jobs of one task are released at least T apart
abbrev pub Spaced : Plan → Log → Type 0
Spaced plan log = (j k : ℕ) → j < log.size → k < log.size → (j ≢ k) → (log.job j).task ≡ (log.job k).task
    → ((log.job j).release + (row_of plan (log.job j)).spacing ≤ (log.job k).release)
    ⊎ ((log.job k).release + (row_of plan (log.job j)).spacing ≤ (log.job j).release)

-- one at a time: of two jobs of one core, one has ended when the other starts
abbrev pub OneAtATime : Plan → Log → Type 0
OneAtATime plan log = (j k : ℕ) → j < log.size → k < log.size → (j ≢ k) → core_of plan (log.job j) ≡ core_of plan (log.job k)
    → ((log.job j).end ≤ (log.job k).start) ⊎ ((log.job k).end ≤ (log.job j).start)

-- the job j is on the core of the job k at the moment t
pub record OnCore (plan : Plan) (log : Log) (k t j : ℕ) : Type 0 where
  -- it is a job of the log
  pub known : j < log.size
  -- of the same core
  pub same : core_of plan (log.job j) ≡ core_of plan (log.job k)
  -- it has started
  pub from : (log.job j).start ≤ t
  -- and has not ended
  pub to : t < (log.job j).end

-- no idling: while a job is ready and not started, some job is on its core
abbrev pub NoIdling : Plan → Log → Type 0
NoIdling plan log = (k : ℕ) → k < log.size → (t : ℕ) → (log.job k).release ≤ t → t < (log.job k).start → (j : ℕ) × OnCore plan log k t j

-- the first job goes before the second: its rank number is lower, or it is of the same task and not younger
abbrev pub Before : Plan → Job → Job → Type 0
Before plan first second = ((row_of plan first).rank < (row_of plan second).rank) ⊎ ((first.task ≡ second.task) × (first.release ≤ second.release))

-- right choice: a job that is started while another of its core is ready, and not started, goes before it
abbrev pub RightChoice : Plan → Log → Type 0
RightChoice plan log = (j k : ℕ) → j < log.size → k < log.size → core_of plan (log.job j) ≡ core_of plan (log.job k)
    → (log.job k).release ≤ (log.job j).start → (log.job j).start < (log.job k).start → Before plan (log.job j) (log.job k)

-- a turn of the job j, which is of another core than the job k, is in service at the moment t
pub record Carried (plan : Plan) (log : Log) (k t : ℕ) (turn : Turn) (j : ℕ) : Type 0 where
  -- it is a job of the log
  pub known : j < log.size
  -- of another core
  pub other : core_of plan (log.job j) ≡ core_of plan (log.job k) → ⊥
  -- its turn has been granted
  pub from : granted turn (log.job j) ≤ t
  -- and has not ended
  pub to : t < ended turn (log.job j)

-- never free while one waits: at each moment of a wait, a turn of another core is in service
abbrev pub NeverFree : Plan → Log → Type 0
NeverFree plan log = (turn : Turn) (k : ℕ) → k < log.size → (t : ℕ) → joined turn (log.job k) ≤ t → t < granted turn (log.job k)
    → (turn' : Turn) × (j : ℕ) × Carried plan log k t turn' j

-- limits kept: a wait meets no more turns of another core than the limit says
abbrev pub LimitsKept : Plan → (ℕ → ℕ → Limit) → Log → Type 0
LimitsKept plan limits log = (turn : Turn) (k : ℕ) → k < log.size → (core : ℕ) → core < plan.cores → (core ≢ core_of plan (log.job k))
    → Within (limits (core_of plan (log.job k)) core) (met plan log turn (log.job k) core)

-- the laws by name
pub data Law : Type 0 where
  possible_moments spaced_releases one_at_a_time no_idling right_choice never_free limits_kept : Law

-- the log keeps a law of the plan, for an arbiter with these limits (`limits c b`: how many turns of b a wait of c may meet)
abbrev pub Keeps : Plan → (ℕ → ℕ → Limit) → Log → Law → Type 0
Keeps plan limits log possible_moments = PossibleMoments plan log
Keeps plan limits log spaced_releases = Spaced plan log
Keeps plan limits log one_at_a_time = OneAtATime plan log
Keeps plan limits log no_idling = NoIdling plan log
Keeps plan limits log right_choice = RightChoice plan log
Keeps plan limits log never_free = NeverFree plan log
Keeps plan limits log limits_kept = LimitsKept plan limits log

-- it keeps all laws
abbrev pub KeepsTheLaws : Plan → (ℕ → ℕ → Limit) → Log → Type 0
KeepsTheLaws plan limits log = (law : Law) → Keeps plan limits log law

-- it keeps all laws but one, which it may break
abbrev pub KeepsAllBut : Law → Plan → (ℕ → ℕ → Limit) → Log → Type 0
KeepsAllBut exempt plan limits log = (law : Law) → (law ≢ exempt) → Keeps plan limits log law

-- every job ends at most its task's number of ticks after its release
abbrev pub EndsWithin : (ℕ → ℕ) → Log → Type 0
EndsWithin windows log = (k : ℕ) → k < log.size → (log.job k).end ≤ (log.job k).release + windows (log.job k).task

-- some job ends later than that
abbrev pub SomeJobEndsBeyond : (ℕ → ℕ) → Log → Type 0
SomeJobEndsBeyond windows log = (k : ℕ) × (k < log.size) × ((log.job k).release + windows (log.job k).task < (log.job k).end)
