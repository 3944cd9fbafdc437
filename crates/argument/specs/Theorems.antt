-- What is proved: each statement here stands on the contract of a public function of this crate. Assumes nothing.
use Rattle.std.specs.Prelude.{◌≡◌, ℕ, ◌+◌, ◌<◌, ◌≤◌, Bool, List}
use Rattle.std.specs.List.Sorted.{IsPermutation}
use Rattle.tasks.specs.Limits.{Limit}
use Rattle.tasks.specs.declared.outcome.Outcome.{Outcome}
use Rattle.tasks.specs.declared.outcome.Outcome.TheVariants.{Window, Late}
use Rattle.argument.specs.Plans.{Plan, SoundPlan}
use Rattle.argument.specs.Demand.{share, GreatestTotal, demand, Covers, WindowFor, Settles}
use Rattle.argument.specs.LongestFirst.{taken, Falling, Offers, offers_below}
use Rattle.argument.specs.Jumps.{searched}
use Rattle.argument.specs.Logs.{Log, Law, one_at_a_time, KeepsTheLaws, KeepsAllBut, EndsWithin, SomeJobEndsBeyond}
use Rattle.argument.specs.General as General

-- every task has a number from 1 to its deadline that covers its demand
abbrev pub AllCovered : Plan → (ℕ → ℕ → Limit) → (ℕ → ℕ) → Type 0
AllCovered plan limits windows = (place : ℕ) → place < plan.size → WindowFor plan limits place (windows place)

-- ---- the bound

-- if every task has a window, then in every log that keeps the laws, of any number of rows, every job ends within its task's window
abbrev pub EveryJobEndsWithinItsWindow : Type 0
EveryJobEndsWithinItsWindow = (plan : Plan) (limits : ℕ → ℕ → Limit) (log : Log) (windows : ℕ → ℕ)
    → SoundPlan plan → AllCovered plan limits windows → KeepsTheLaws plan limits log → EndsWithin windows log

-- the same for logs in which jobs of one core may overlap
abbrev pub OneJobAtATimeIsNotNeeded : Type 0
OneJobAtATimeIsNotNeeded = (plan : Plan) (limits : ℕ → ℕ → Limit) (log : Log) (windows : ℕ → ℕ)
    → SoundPlan plan → AllCovered plan limits windows → KeepsAllBut one_at_a_time plan limits log → EndsWithin windows log

-- the bound needs a law: some log of a sound plan with windows keeps all the others, and has a job beyond its window
pub record Needed (law : Law) : Type 0 where
  -- there are a plan, limits, windows and a log
  pub plan : Plan
  pub limits : ℕ → ℕ → Limit
  pub windows : ℕ → ℕ
  pub log : Log
  -- the plan is sound
  pub sound : SoundPlan plan
  -- every task has its window
  pub covered : AllCovered plan limits windows
  -- the log keeps all laws but this one
  pub keeps : KeepsAllBut law plan limits log
  -- and some job ends beyond its window
  pub late : SomeJobEndsBeyond windows log

-- a window cannot be trusted while another task is late: a number covers the demand of one task, a task of another core has no such
-- number, the log keeps all laws, and a job of the first ends beyond its number
pub record AWindowAloneIsNotEnough : Type 0 where
  -- there are a plan, limits and a log
  pub plan : Plan
  pub limits : ℕ → ℕ → Limit
  pub log : Log
  -- the plan is sound
  pub sound : SoundPlan plan
  -- the log keeps all laws
  pub keeps : KeepsTheLaws plan limits log
  -- one task has a number that covers
  pub place : ℕ
  pub ticks : ℕ
  pub window : WindowFor plan limits place ticks
  -- another, of another core, is late
  pub other : ℕ
  pub apart : (plan.row other).core ≡ (plan.row place).core → ⊥
  pub demanded : ℕ
  pub late : Settles plan limits other (Late demanded)
  -- and a job of the first ends beyond its number
  pub job : ℕ
  pub known : job < log.size
  pub of_task : (log.job job).task ≡ place
  pub beyond : (log.job job).release + ticks < (log.job job).end

-- a window can be reached: every task has one, the log keeps all laws, and a job ends at the very last tick of its task's least window
pub record AWindowCanBeReached : Type 0 where
  -- there are a plan, limits, windows and a log
  pub plan : Plan
  pub limits : ℕ → ℕ → Limit
  pub windows : ℕ → ℕ
  pub log : Log
  -- the plan is sound
  pub sound : SoundPlan plan
  -- each task's window is its outcome
  pub settled : (place : ℕ) → place < plan.size → Settles plan limits place (Window (windows place))
  -- the log keeps all laws
  pub keeps : KeepsTheLaws plan limits log
  -- and some job ends just when its window does
  pub job : ℕ
  pub known : job < log.size
  pub at_the_end : (log.job job).end ≡ (log.job job).release + windows (log.job job).task

-- the bound over turns, for jobs with any number of them, a delay from release to ready, a reach, and groups of cores
abbrev pub EveryJobEndsWithinItsWindowInGeneral : Type 0
EveryJobEndsWithinItsWindowInGeneral =
    (group : ℕ → ℕ → Bool) (limits : ℕ → ℕ → Limit) (plan : General.Plan) (log : General.Log) (windows : ℕ → ℕ)
    → ((u : ℕ) → u < plan.size → 1 ≤ (plan.task u).spacing)
    → ((u : ℕ) → u < plan.size → General.WindowFor group limits plan (plan.task u) (windows u))
    → General.Lawful group limits plan log
    → (k : ℕ) → k < log.size → (log.job k).end ≤ (log.job k).ready + windows (log.job k).task

-- ---- demand

-- some choice of offered phases totals the share, and none totals more
abbrev pub TheShareIsTheGreatestTotalOfAnyChoice : Type 0
TheShareIsTheGreatestTotalOfAnyChoice = (plan : Plan) (core w : ℕ) (limit : Limit) → GreatestTotal plan core w limit (share plan core w limit)

-- the longest phases first, as many as the limit lets through, total the share
abbrev pub LongestFirstReachesTheShare : Type 0
LongestFirstReachesTheShare = (plan : Plan) (core w : ℕ) (limit : Limit) (phases : List (ℕ × ℕ))
    → Falling phases → Offers plan core w phases → taken limit phases ≡ share plan core w limit

-- the list of the offered phases, in any order, has the phases that the core offers
abbrev pub TheOfferedPhasesInAnyOrder : Type 0
TheOfferedPhasesInAnyOrder = (plan : Plan) (core w : ℕ) (phases : List (ℕ × ℕ))
    → IsPermutation (offers_below plan core w plan.size) phases → Offers plan core w phases

-- demand never falls as the number of ticks grows
abbrev pub DemandNeverFalls : Type 0
DemandNeverFalls = (plan : Plan) (limits : ℕ → ℕ → Limit) (place v w : ℕ) → v ≤ w → demand plan limits place v ≤ demand plan limits place w

-- a covering number that is not below w is not below the demand of w: the search may go on there
abbrev pub AJumpPassesNoCoveringNumber : Type 0
AJumpPassesNoCoveringNumber = (plan : Plan) (limits : ℕ → ℕ → Limit) (place w v : ℕ)
    → w ≤ v → Covers plan limits place v → demand plan limits place w ≤ v

-- the search from 1 ends with the outcome of the task, after at most D jumps
abbrev pub JumpingEndsAtTheOutcome : Type 0
JumpingEndsAtTheOutcome = (plan : Plan) (limits : ℕ → ℕ → Limit) (place : ℕ)
    → Settles plan limits place (searched plan limits place (plan.row place).deadline 1)

-- a task has one outcome only
abbrev pub TheOutcomeIsFixed : Type 0
TheOutcomeIsFixed = (plan : Plan) (limits : ℕ → ℕ → Limit) (place : ℕ) (first second : Outcome)
    → Settles plan limits place first → Settles plan limits place second → first ≡ second
