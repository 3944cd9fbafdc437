-- The box with three tasks on two cores: its plan, its limits, the log of its first jobs, and its windows. Assumes nothing.
use Rattle.std.specs.Prelude.{ℕ, zero, suc, [], ◌∷◌, Some, None}
use Rattle.tasks.specs.Limits.{Limit}
use Rattle.tasks.specs.declared.outcome.Outcome.{Outcome}
use Rattle.tasks.specs.declared.outcome.Outcome.TheVariants.{Window, Late}
use Rattle.argument.specs.Plans.{Plan, plan_of, SoundPlan}
use Rattle.argument.specs.Demand.{GreatestTotal, Settles}
use Rattle.argument.specs.Logs.{Job, Log, log_of, KeepsTheLaws}

-- tasks 1 and 2 on core 0, task 3 on core 1; the deadline of task 3 is given, all others are the spacing
abbrev pub box : ℕ → Plan
box deadline = plan_of 2 (
    record { id = 1; core = 0; rank = 1; spacing = 40; deadline = 40; a = 2; e = 5; r = 1 }
    ∷ record { id = 2; core = 0; rank = 2; spacing = 60; deadline = 60; a = 3; e = 6; r = 2 }
    ∷ record { id = 3; core = 1; rank = 1; spacing = 50; deadline = deadline; a = 4; e = 8; r = 2 } ∷ [])

-- the limits of the queue and of round robin with two ports: one phase of the other port before a waiting one
abbrev pub one_each : ℕ → ℕ → Limit
one_each waiting other = Some 1

-- the limits of two ports where port 0 is favoured: nothing bounds what it puts before a waiting phase of port 1
abbrev pub favours_0 : ℕ → ℕ → Limit
favours_0 zero other = Some 1
favours_0 (suc waiting) other = None

-- a row of a log: the place of the task, its release, start, A granted, A end, E end, R granted, end
abbrev pub log_row : ℕ → ℕ → ℕ → ℕ → ℕ → ℕ → ℕ → ℕ → Job
log_row task release start a_granted a_end e_end r_granted end =
    record { task = task; release = release; start = start; a_granted = a_granted; a_end = a_end; e_end = e_end; r_granted = r_granted; end = end }

-- all three released at 0 in the order 1, 2, 3, with full lengths, under the queue
abbrev pub first_jobs : Log
first_jobs = log_of (log_row 0 0 0 0 2 7 7 8 ∷ log_row 1 0 8 8 11 17 17 19 ∷ log_row 2 0 0 2 6 14 14 16 ∷ [])

-- the plan is sound, and its log keeps the laws
abbrev pub TheBoxAndItsLogKeepTheLaws : Type 0
TheBoxAndItsLogKeepTheLaws = SoundPlan (box 50) × KeepsTheLaws (box 50) one_each first_jobs

-- the outcomes of the three tasks
abbrev pub Outcomes : Plan → (ℕ → ℕ → Limit) → Outcome → Outcome → Outcome → Type 0
Outcomes plan limits first second third = Settles plan limits 0 first × Settles plan limits 1 second × Settles plan limits 2 third

-- the queue and round robin give 31, 31 and 20
abbrev pub TheBoxUnderTheQueue : Type 0
TheBoxUnderTheQueue = Outcomes (box 50) one_each (Window 31) (Window 31) (Window 20)

-- with port 0 favoured over the queue, task 3 has 30
abbrev pub TheBoxWithPort0Favoured : Type 0
TheBoxWithPort0Favoured = Outcomes (box 50) favours_0 (Window 31) (Window 31) (Window 30)

-- with a deadline of 20 for task 3, the others need 25
abbrev pub TheBoxWithANearerDeadline : Type 0
TheBoxWithANearerDeadline = Outcomes (box 20) one_each (Window 25) (Window 25) (Window 20)

-- with a deadline of 19, task 3 is late with a demand of 20, and task 1 keeps its 25
abbrev pub TheBoxWithALateTask : Type 0
TheBoxWithALateTask = Settles (box 19) one_each 0 (Window 25) × Settles (box 19) one_each 2 (Late 20)

-- core 1 offers the phases 4, 4, 2, 2 in 31 ticks: of these at most three total 10, and at most none 0
abbrev pub ThreeOfFourPhases : Type 0
ThreeOfFourPhases = GreatestTotal (box 50) 1 31 (Some 3) 10 × GreatestTotal (box 50) 1 31 (Some 0) 0

-- a single task on a single core
abbrev pub lone : Plan
lone = plan_of 1 (record { id = 1; core = 0; rank = 1; spacing = 3; deadline = 3; a = 1; e = 1; r = 1 } ∷ [])

-- with nobody to wait for, the window is the job itself
abbrev pub ALoneTaskNeedsItsOwnTicks : Type 0
ALoneTaskNeedsItsOwnTicks = Settles lone one_each 0 (Window 3)
