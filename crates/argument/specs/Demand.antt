-- Demand: the ticks that can go by while a job of a task waits and runs, and the numbers that cover it. Assumes nothing.
use Rattle.std.specs.Prelude.{◌≡◌, ℕ, ◌+◌, ◌*◌, ◌<◌, ◌≤◌, max, not, ◌==◌, nat_lt}
use Rattle.tasks.specs.declared.task.Row.{Row}
use Rattle.tasks.specs.declared.outcome.Outcome.{Outcome}
use Rattle.tasks.specs.declared.outcome.Outcome.TheVariants.{Window, Late}
use Rattle.tasks.specs.Rows.{cost}
use Rattle.tasks.specs.Limits.{Within, times, capped, Limit}
use Rattle.argument.specs.Sums.{sum, greatest, any, on, ceil}
use Rattle.argument.specs.Plans.{Plan, level, lower}

-- ---- the task's own core

-- the longest job that may be on the core already: the greatest C of a task with a rank number above the task's, or 0
abbrev pub block : Plan → Row → ℕ
block plan task = greatest plan.size (λ place. on (lower task (plan.row place)) (cost (plan.row place)))

-- the jobs that another task of the core brings in w ticks if it goes first, or that the task itself brings: ⌈w / T⌉ by its own T
abbrev pub jobs : Row → ℕ → Row → ℕ
jobs task w other = on (level task other) (ceil w other.spacing)

-- the ticks that all these jobs take when they never wait
abbrev pub own : Plan → Row → ℕ → ℕ
own plan task w = sum plan.size (λ place. cost (plan.row place) * jobs task w (plan.row place))

-- how often the core may wait for the bus: 2 for each of these jobs, and 2 more if a job may be on the core already
abbrev pub turns : Plan → Row → ℕ → ℕ
turns plan task w =
    2 * sum plan.size (λ place. jobs task w (plan.row place)) + on (any plan.size (λ place. lower task (plan.row place))) 2

-- ---- the other cores

-- the jobs that a task brings if it is of that other core: ⌈(w + D) / T⌉ by its own D and T; each offers one A phase and one R phase
abbrev pub offered : ℕ → ℕ → Row → ℕ
offered core w other = on (other.core == core) (ceil (w + other.deadline) other.spacing)

-- a choice among the phases that the core offers: so many A phases (fetched) and so many R phases (written) of the task at each place
pub record Choice (plan : Plan) (core w : ℕ) (limit : Limit) (fetched written : ℕ → ℕ) : Type 0 where
  -- no more A phases than are offered
  pub some_a : (place : ℕ) → place < plan.size → fetched place ≤ offered core w (plan.row place)
  -- no more R phases than are offered
  pub some_r : (place : ℕ) → place < plan.size → written place ≤ offered core w (plan.row place)
  -- in all no more than the limit lets through
  pub few : Within limit (sum plan.size (λ place. fetched place + written place))

-- the ticks of all phases of a choice
abbrev pub total : Plan → (ℕ → ℕ) → (ℕ → ℕ) → ℕ
total plan fetched written = sum plan.size (λ place. (plan.row place).a * fetched place + (plan.row place).r * written place)

-- so many ticks are the greatest total of any choice
pub record GreatestTotal (plan : Plan) (core w : ℕ) (limit : Limit) (ticks : ℕ) : Type 0 where
  -- some choice
  pub fetched : ℕ → ℕ
  pub written : ℕ → ℕ
  pub choice : Choice plan core w limit fetched written
  -- has it
  pub reached : total plan fetched written ≡ ticks
  -- and no choice has more
  pub no_more : (x y : ℕ → ℕ) → Choice plan core w limit x y → total plan x y ≤ ticks

-- how many of the offered phases are longer than l
abbrev pub longer : Plan → ℕ → ℕ → ℕ → ℕ
longer plan core w l =
    sum plan.size (λ place. on (nat_lt l (plan.row place).a) (offered core w (plan.row place)) + on (nat_lt l (plan.row place).r) (offered core w (plan.row place)))

-- the length of the longest phase of the plan
abbrev pub longest : Plan → ℕ
longest plan = greatest plan.size (λ place. max (plan.row place).a (plan.row place).r)

-- the share of a core: the greatest total of any choice, reckoned by lengths (a phase of n ticks is longer than 0, .., n - 1)
abbrev pub share : Plan → ℕ → ℕ → Limit → ℕ
share plan core w limit = sum (longest plan) (λ l. capped limit (longer plan core w l))

-- the shares of all other cores, each for at most turns × its limit phases
abbrev pub shares : Plan → (ℕ → ℕ → Limit) → Row → ℕ → ℕ
shares plan limits task w =
    sum plan.cores (λ core. on (not (core == task.core)) (share plan core w (times (turns plan task w) (limits task.core core))))

-- ---- demand and outcome

-- the demand of the task at a place, for w ticks
abbrev pub demand : Plan → (ℕ → ℕ → Limit) → ℕ → ℕ → ℕ
demand plan limits place w = block plan (plan.row place) + own plan (plan.row place) w + shares plan limits (plan.row place) w

-- w ticks suffice for all that can come up in them
abbrev pub Covers : Plan → (ℕ → ℕ → Limit) → ℕ → ℕ → Type 0
Covers plan limits place w = demand plan limits place w ≤ w

-- a number from 1 to the deadline that covers
pub record WindowFor (plan : Plan) (limits : ℕ → ℕ → Limit) (place w : ℕ) : Type 0 where
  -- it is at least 1
  pub some : 1 ≤ w
  -- it is at most the deadline
  pub in_time : w ≤ (plan.row place).deadline
  -- and it covers
  pub covers : Covers plan limits place w

-- no number from 1 on below the end covers
abbrev pub NoneBelow : Plan → (ℕ → ℕ → Limit) → ℕ → ℕ → Type 0
NoneBelow plan limits place end = (w : ℕ) → 1 ≤ w → w < end → Covers plan limits place w → ⊥

-- the outcome of a task: the least covering number from 1 to the deadline, or that there is none, with the demand at the deadline
abbrev pub Settles : Plan → (ℕ → ℕ → Limit) → ℕ → Outcome → Type 0
Settles plan limits place (Window ticks) = WindowFor plan limits place ticks × NoneBelow plan limits place ticks
Settles plan limits place (Late ticks) =
    NoneBelow plan limits place ((plan.row place).deadline + 1) × (ticks ≡ demand plan limits place (plan.row place).deadline)
