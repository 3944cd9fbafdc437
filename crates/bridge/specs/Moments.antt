-- What happens at a moment: four steps, in this order. Assumes nothing.
-- The second, that jobs released at this moment become ready, changes no state: a job is ready from its release on, until it is started.
use Rattle.std.specs.Prelude.{ℕ, zero, suc, ◌+◌, Bool, false, cond, ◌&&◌, ◌||◌, ◌∷◌, Some, None, Option, ◌==◌, nat_le, nat_lt}
use Rattle.argument.specs.Sums.{any}
use Rattle.argument.specs.Plans.{Plan}
use Rattle.argument.specs.Logs.{A, R}
use Rattle.bus.specs.Courses.{joins, grants, ends}
use Rattle.bridge.specs.Scripts.{Script, task_at, core_at}
use Rattle.bridge.specs.Stages.{unstarted, waiting, in_A, in_E, in_R, over, is}
use Rattle.bridge.specs.States.{Cell, State, put}

-- ---- what becomes of a job

-- it is put on its core, and its port joins for A
abbrev pub started : ℕ → Cell → Cell
started now x = record { stage = waiting A; start = now; a_granted = x.a_granted; a_end = x.a_end; e_end = x.e_end; r_granted = x.r_granted; end = x.end }

-- its A turn is granted; its A phase takes a ticks, and then its E phase e
abbrev pub fetching : ℕ → ℕ → ℕ → Cell → Cell
fetching now a e x = record { stage = in_A; start = x.start; a_granted = now; a_end = now + a; e_end = now + a + e; r_granted = x.r_granted; end = x.end }

-- after A, E begins
abbrev pub executing : Cell → Cell
executing x = record { stage = in_E; start = x.start; a_granted = x.a_granted; a_end = x.a_end; e_end = x.e_end; r_granted = x.r_granted; end = x.end }

-- after E, its port joins for R
abbrev pub executed : Cell → Cell
executed x = record { stage = waiting R; start = x.start; a_granted = x.a_granted; a_end = x.a_end; e_end = x.e_end; r_granted = x.r_granted; end = x.end }

-- its R turn is granted; its R phase takes r ticks
abbrev pub returning : ℕ → ℕ → Cell → Cell
returning now r x = record { stage = in_R; start = x.start; a_granted = x.a_granted; a_end = x.a_end; e_end = x.e_end; r_granted = now; end = now + r }

-- after R, the job ends
abbrev pub returned : Cell → Cell
returned x = record { stage = over; start = x.start; a_granted = x.a_granted; a_end = x.a_end; e_end = x.e_end; r_granted = x.r_granted; end = x.end }

-- ---- step 1: phases whose last tick is over end, and an ended bus phase is done at the arbiter

-- the A phase of the job k ends
abbrev pub end_a : State → ℕ → State
end_a S k = record { now = S.now; cell = put S.cell k (executing (S.cell k)); has = S.has; events = ends ∷ S.events }

-- the R phase of the job k ends, and the core has no job
abbrev pub end_r : State → ℕ → ℕ → State
end_r S core k = record { now = S.now; cell = put S.cell k (returned (S.cell k)); has = put S.has core None; events = ends ∷ S.events }

-- a core, with the job that it has
abbrev pub finish_at : State → ℕ → Option ℕ → State
finish_at S core None = S
finish_at S core (Some k) =
    cond (is (S.cell k).stage in_A && (S.cell k).a_end == S.now) (end_a S k)
    (cond (is (S.cell k).stage in_R && (S.cell k).end == S.now) (end_r S core k) S)

-- the cores below a number
abbrev pub finishes : ℕ → State → State
finishes zero S = S
finishes (suc core) S = finish_at (finishes core S) core ((finishes core S).has core)

-- ---- step 2: jobs released at this moment become ready

-- the job k of the core is ready: it is released, and not started
abbrev pub ready : Plan → Script → State → ℕ → ℕ → Bool
ready plan script S core k = core_at plan script k == core && (nat_le (script.row k).release S.now && is (S.cell k).stage unstarted)

-- ---- step 3: cores act, from 0 upward

-- the first of two jobs goes first: its rank number is lower, or it is the same and the job is not younger
abbrev pub ahead : Plan → Script → ℕ → ℕ → Bool
ahead plan script j k =
    nat_lt (task_at plan script j).rank (task_at plan script k).rank
    || ((task_at plan script j).rank == (task_at plan script k).rank && nat_le (script.row j).release (script.row k).release)

-- which of the best so far and the job k goes first
abbrev pub better : Plan → Script → Option ℕ → ℕ → Option ℕ
better plan script None k = Some k
better plan script (Some j) k = cond (ahead plan script j k) (Some j) (Some k)

-- of the ready jobs of the core below n the one that goes first: lowest rank number, oldest first
abbrev pub first : Plan → Script → State → ℕ → ℕ → Option ℕ
first plan script S core zero = None
first plan script S core (suc n) = cond (ready plan script S core n) (better plan script (first plan script S core n) n) (first plan script S core n)

-- the core starts the job k, and joins for A
abbrev pub join_a : State → ℕ → ℕ → State
join_a S core k = record { now = S.now; cell = put S.cell k (started S.now (S.cell k)); has = put S.has core (Some k); events = joins core ∷ S.events }

-- the core joins for R with its job k
abbrev pub join_r : State → ℕ → ℕ → State
join_r S core k = record { now = S.now; cell = put S.cell k (executed (S.cell k)); has = S.has; events = joins core ∷ S.events }

-- an idle core, with its first ready job
abbrev pub begin_at : State → ℕ → Option ℕ → State
begin_at S core None = S
begin_at S core (Some k) = join_a S core k

-- a core, with the job that it has
abbrev pub act_at : Plan → Script → State → ℕ → Option ℕ → State
act_at plan script S core None = begin_at S core (first plan script S core script.size)
act_at plan script S core (Some k) = cond (is (S.cell k).stage in_E && (S.cell k).e_end == S.now) (join_r S core k) S

-- the cores below a number
abbrev pub acts : Plan → Script → ℕ → State → State
acts plan script zero S = S
acts plan script (suc core) S = act_at plan script (acts plan script core S) core ((acts plan script core S).has core)

-- ---- step 4: if nothing is in service and a port waits, the arbiter grants

-- the core is in A or in R, with the job that it has
abbrev pub serving : State → Option ℕ → Bool
serving S None = false
serving S (Some k) = is (S.cell k).stage in_A || is (S.cell k).stage in_R

-- the core waits, with the job that it has
abbrev pub waits_now : State → Option ℕ → Bool
waits_now S None = false
waits_now S (Some k) = is (S.cell k).stage (waiting A) || is (S.cell k).stage (waiting R)

-- the A turn of the job k is granted
abbrev pub grant_a : Script → State → ℕ → ℕ → State
grant_a script S port k = record { now = S.now; cell = put S.cell k (fetching S.now (script.row k).a (script.row k).e (S.cell k)); has = S.has; events = grants port ∷ S.events }

-- the R turn of the job k is granted
abbrev pub grant_r : Script → State → ℕ → ℕ → State
grant_r script S port k = record { now = S.now; cell = put S.cell k (returning S.now (script.row k).r (S.cell k)); has = S.has; events = grants port ∷ S.events }

-- the port that the arbiter grants, with the job that its core has
abbrev pub grant_at : Script → State → ℕ → Option ℕ → State
grant_at script S port None = record { now = S.now; cell = S.cell; has = S.has; events = grants port ∷ S.events }
grant_at script S port (Some k) = cond (is (S.cell k).stage (waiting A)) (grant_a script S port k) (grant_r script S port k)

-- the port is the one that the arbiter grants, if it is asked
abbrev pub granting : Plan → Script → ℕ → State → State
granting plan script port S =
    cond (any plan.cores (λ core. serving S (S.has core))) S
    (cond (any plan.cores (λ core. waits_now S (S.has core))) (grant_at script S port (S.has port)) S)

-- ---- the four steps

abbrev pub moment : Plan → Script → ℕ → State → State
moment plan script port S = granting plan script port (acts plan script plan.cores (finishes plan.cores S))
