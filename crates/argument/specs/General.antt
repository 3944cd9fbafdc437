-- The same argument once more, and once for all: jobs with any number of turns, ready some ticks after their release, and limits on
-- groups of cores. The plan's own laws and demand are one instance. Assumes nothing.
use Rattle.std.specs.Prelude.{◌≡◌, ℕ, suc, ◌+◌, ◌-◌, ◌*◌, ◌<◌, ◌≤◌, Bool, cond, not, ◌&&◌, ◌⊎◌, ◌==◌, ◌≢◌, nat_le, nat_lt}
use Rattle.tasks.specs.Limits.{Within, times, Limit}
use Rattle.argument.specs.Sums.{sum, greatest, on, ceil}

-- ---- plans and logs

pub record Task : Type 0 where
  -- core, rank and spacing as ever
  pub core : ℕ
  pub rank : ℕ
  pub spacing : ℕ
  -- a job is ready at most so many ticks after its release
  pub delay : ℕ
  -- its jobs are known to end within so many ticks of their release
  pub reach : ℕ
  -- the ticks of a job in which it does not wait are at most so many
  pub cost : ℕ
  -- a job has at most so many turns
  pub stays : ℕ
  -- how long each of them is at most
  pub long : ℕ → ℕ

pub record Plan : Type 0 where
  -- the places of the tasks are the numbers below this one
  pub size : ℕ
  pub task : ℕ → Task

-- one turn, a stay on the bus
pub record Stay : Type 0 where
  -- its wait begins
  pub joined : ℕ
  -- its wait ends, and its service begins
  pub granted : ℕ
  -- its service ends
  pub ended : ℕ

pub record Job : Type 0 where
  -- the place of its task
  pub task : ℕ
  -- it is there
  pub release : ℕ
  -- it may be started
  pub ready : ℕ
  -- it is put on its core
  pub start : ℕ
  -- how many turns it has
  pub stays : ℕ
  -- its turns, in their order
  pub stay : ℕ → Stay
  -- it leaves its core
  pub end : ℕ

pub record Log : Type 0 where
  -- the jobs are the numbers below this one
  pub size : ℕ
  pub job : ℕ → Job

-- the task of a job, and its core
abbrev pub task_of : Plan → Job → Task
task_of plan job = plan.task job.task

abbrev pub core_of : Plan → Job → ℕ
core_of plan job = (task_of plan job).core

-- when the job joins for its turn x, or its end if it has no such turn
abbrev pub joins : Job → ℕ → ℕ
joins job x = cond (nat_lt x job.stays) (job.stay x).joined job.end

-- the wait of the first turn meets the service of the second
abbrev pub meets : Stay → Stay → Bool
meets first second = nat_lt second.granted first.granted && nat_lt first.joined second.ended

-- b is another core than c, and in the group g
abbrev pub others : (ℕ → ℕ → Bool) → ℕ → ℕ → ℕ → Bool
others group c g b = not (b == c) && group g b

-- how many turns of other cores of the group are served while a turn of the core c waits
abbrev pub met : (ℕ → ℕ → Bool) → Plan → Log → ℕ → Stay → ℕ → ℕ
met group plan log c stay g =
    sum log.size (λ j. on (others group c g (core_of plan (log.job j))) (sum (log.job j).stays (λ y. on (meets stay ((log.job j).stay y)) 1)))

-- ---- the laws

-- the moments of a job come in their order, and nothing takes longer than its task says
pub record Possible (task : Task) (job : Job) : Type 0 where
  -- it is ready from its release on, up to the delay later
  pub ready_from : job.release ≤ job.ready
  pub ready_by : job.ready ≤ job.release + task.delay
  -- it is started when it is ready
  pub starts : job.ready ≤ job.start
  -- it is on its core for some time
  pub lasts : job.start < job.end
  -- it has no more turns than its task says
  pub few : job.stays ≤ task.stays
  -- it may run before its first turn
  pub begins : job.start ≤ joins job 0
  -- a turn waits, perhaps for no time
  pub waits : (x : ℕ) → x < job.stays → (job.stay x).joined ≤ (job.stay x).granted
  -- its service takes some time, and no more than its task says
  pub serves : (x : ℕ) → x < job.stays → (job.stay x).granted < (job.stay x).ended
  pub most : (x : ℕ) → x < job.stays → (job.stay x).ended ≤ (job.stay x).granted + task.long x
  -- it may run between two turns, and after the last
  pub goes_on : (x : ℕ) → x < job.stays → (job.stay x).ended ≤ joins job (suc x)
  -- all that is no wait takes no more than the cost
  pub owns : (joins job 0 - job.start) + sum job.stays (λ x. joins job (suc x) - (job.stay x).granted) ≤ task.cost

-- the first job goes before the second
abbrev pub Before : Plan → Job → Job → Type 0
Before plan first second = ((task_of plan first).rank < (task_of plan second).rank) ⊎ ((first.task ≡ second.task) × (first.release ≤ second.release))

-- the job j is on the core c at the moment t
pub record OnCore (plan : Plan) (log : Log) (c t j : ℕ) : Type 0 where
  -- it is a job of that core, has started, and has not ended
  pub known : j < log.size
  pub same : core_of plan (log.job j) ≡ c
  pub from : (log.job j).start ≤ t
  pub to : t < (log.job j).end

-- turn y of the job j, of another core than c, is in service at the moment t
pub record Carried (plan : Plan) (log : Log) (c t j y : ℕ) : Type 0 where
  -- it is a turn of a job of another core, has been granted, and has not ended
  pub known : j < log.size
  pub other : core_of plan (log.job j) ≡ c → ⊥
  pub turn : y < (log.job j).stays
  pub from : ((log.job j).stay y).granted ≤ t
  pub to : t < ((log.job j).stay y).ended

-- the laws that the bound rests on; that a core has one job at a time, and the bus one turn, is not among them
pub record Lawful (group : ℕ → ℕ → Bool) (limits : ℕ → ℕ → Limit) (plan : Plan) (log : Log) : Type 0 where
  -- each job is one of a task of the plan
  pub known : (k : ℕ) → k < log.size → (log.job k).task < plan.size
  -- possible moments
  pub possible : (k : ℕ) → k < log.size → Possible (task_of plan (log.job k)) (log.job k)
  -- spacing, from release to release
  pub spaced : (j k : ℕ) → j < log.size → k < log.size → (j ≢ k) → (log.job j).task ≡ (log.job k).task
      → ((log.job j).release + (task_of plan (log.job j)).spacing ≤ (log.job k).release)
      ⊎ ((log.job k).release + (task_of plan (log.job j)).spacing ≤ (log.job j).release)
  -- no idling while a job is ready
  pub busy : (k : ℕ) → k < log.size → (t : ℕ) → (log.job k).ready ≤ t → t < (log.job k).start
      → (j : ℕ) × OnCore plan log (core_of plan (log.job k)) t j
  -- right choice among the ready
  pub right : (j k : ℕ) → j < log.size → k < log.size → core_of plan (log.job j) ≡ core_of plan (log.job k)
      → (log.job k).ready ≤ (log.job j).start → (log.job j).start < (log.job k).start → Before plan (log.job j) (log.job k)
  -- never free while one waits
  pub carried : (k : ℕ) → k < log.size → (x : ℕ) → x < (log.job k).stays → (t : ℕ) → ((log.job k).stay x).joined ≤ t → t < ((log.job k).stay x).granted
      → (j : ℕ) × (y : ℕ) × Carried plan log (core_of plan (log.job k)) t j y
  -- limits kept, for each group
  pub limited : (k : ℕ) → k < log.size → (x : ℕ) → x < (log.job k).stays → (g : ℕ)
      → Within (limits (core_of plan (log.job k)) g) (met group plan log (core_of plan (log.job k)) ((log.job k).stay x) g)

-- ---- demand

-- the other goes first, or is the task itself
abbrev pub level : Task → Task → Bool
level task other = other.core == task.core && nat_le other.rank task.rank

-- the task goes first
abbrev pub lower : Task → Task → Bool
lower task other = other.core == task.core && nat_lt task.rank other.rank

-- a job that is ready in w ticks was released in w ticks, or up to the delay before
abbrev pub jobs : Task → ℕ → Task → ℕ
jobs task w other = on (level task other) (ceil (w + other.delay) other.spacing)

-- the longest job that may be on the core already
abbrev pub block : Plan → Task → ℕ
block plan task = greatest plan.size (λ u. on (lower task (plan.task u)) (plan.task u).cost)

-- the ticks that all these jobs take when they never wait
abbrev pub own : Plan → Task → ℕ → ℕ
own plan task w = sum plan.size (λ u. (plan.task u).cost * jobs task w (plan.task u))

-- how often the core may wait for the bus, by the number of turns of each task
abbrev pub turns : Plan → Task → ℕ → ℕ
turns plan task w =
    sum plan.size (λ u. (plan.task u).stays * jobs task w (plan.task u)) + greatest plan.size (λ u. on (lower task (plan.task u)) (plan.task u).stays)

-- the jobs of another core's task that can be in the way
abbrev pub offered : ℕ → ℕ → Task → ℕ
offered c w other = on (not (other.core == c)) (ceil (w + other.reach) other.spacing)

-- a choice of turns: so many of turn x of the task u
pub record Choice (group : ℕ → ℕ → Bool) (limits : ℕ → ℕ → Limit) (plan : Plan) (task : Task) (w : ℕ) (chosen : ℕ → ℕ → ℕ) : Type 0 where
  -- of each turn no more than there are jobs
  pub each : (u : ℕ) → u < plan.size → (x : ℕ) → x < (plan.task u).stays → chosen u x ≤ offered task.core w (plan.task u)
  -- of each group no more than turns × its limit
  pub few : (g : ℕ) → Within (times (turns plan task w) (limits task.core g))
      (sum plan.size (λ u. on (others group task.core g (plan.task u).core) (sum (plan.task u).stays (chosen u))))

-- the ticks of all turns of a choice
abbrev pub total : Plan → (ℕ → ℕ → ℕ) → ℕ
total plan chosen = sum plan.size (λ u. sum (plan.task u).stays (λ x. (plan.task u).long x * chosen u x))

-- no choice has more than so many ticks
abbrev pub AtMostOthers : (ℕ → ℕ → Bool) → (ℕ → ℕ → Limit) → Plan → Task → ℕ → ℕ → Type 0
AtMostOthers group limits plan task w ticks = (chosen : ℕ → ℕ → ℕ) → Choice group limits plan task w chosen → total plan chosen ≤ ticks

-- w covers what can come up in w ticks, and a job that is ready within its delay ends within its reach
pub record WindowFor (group : ℕ → ℕ → Bool) (limits : ℕ → ℕ → Limit) (plan : Plan) (task : Task) (w : ℕ) : Type 0 where
  -- it is at least 1
  pub some : 1 ≤ w
  -- a job that is ready as late as may be ends within the reach
  pub in_reach : task.delay + w ≤ task.reach
  -- what the other cores take at most
  pub rest : ℕ
  pub at_most : AtMostOthers group limits plan task w rest
  -- and it covers
  pub covers : block plan task + own plan task w + rest ≤ w
