-- A core's stages: which job, which phase, and what an event makes of them. Assumes nothing.
use Rattle.std.specs.Prelude.{ℕ, ◌+◌, ◌<◌, Bool, true, false, List, Some, None, Option, ◌==◌, slice_index_or}
use Rattle.std.specs.Coded.{Unit-prop, le_prop}
use Rattle.runs.specs.declared.rows.LogRow.{LogRow}
use Rattle.runs.specs.declared.rows.Job.{Job}
use Rattle.runs.specs.declared.stage.Turn.{Turn}
use Rattle.runs.specs.declared.stage.Turn.TheVariants.{First, Last}
use Rattle.runs.specs.declared.stage.Stage.{Stage}
use Rattle.runs.specs.declared.stage.Stage.TheVariants.{Idle, Waiting, A, E, R}
use Rattle.runs.specs.declared.stage.Event.{Event}
use Rattle.runs.specs.declared.stage.Event.TheVariants.{Start, Granted, Ended}

-- what the core machine makes of a stage and an event
abbrev pub onward : Stage → Event → Stage
onward Idle (Start k) = Waiting First k
onward Idle Granted = Idle
onward Idle Ended = Idle
onward (Waiting First k) (Start j) = Waiting First k
onward (Waiting First k) Granted = A k
onward (Waiting First k) Ended = Waiting First k
onward (Waiting Last k) (Start j) = Waiting Last k
onward (Waiting Last k) Granted = R k
onward (Waiting Last k) Ended = Waiting Last k
onward (A k) (Start j) = A k
onward (A k) Granted = A k
onward (A k) Ended = E k
onward (E k) (Start j) = E k
onward (E k) Granted = E k
onward (E k) Ended = Waiting Last k
onward (R k) (Start j) = R k
onward (R k) Granted = R k
onward (R k) Ended = Idle

-- the job that is on the core
abbrev pub job : Stage → Option ℕ
job Idle = None
job (Waiting t k) = Some k
job (A k) = Some k
job (E k) = Some k
job (R k) = Some k

-- the phase of that job, by the number that the definition of a run has for it
abbrev pub number : Stage → ℕ
number Idle = 0
number (Waiting First k) = 1
number (A k) = 2
number (E k) = 3
number (Waiting Last k) = 4
number (R k) = 5

-- what stands past the end of a log
abbrev pub none : LogRow
none = record { id = 0; release = 0; start = 0; a_granted = 0; a_end = 0; e_end = 0; r_granted = 0; end = 0 }

-- the job is one of n
abbrev pub Inside : ℕ → Stage → Type 0
Inside n Idle = Unit {0}
Inside n (Waiting t k) = k < n
Inside n (A k) = k < n
Inside n (E k) = k < n
Inside n (R k) = k < n

-- which holds in one way only, so that it may stand in a type
pub Inside_prop : (n : ℕ) (s : Stage) → IsProp (Inside n s)
Inside_prop n Idle = Unit-prop
Inside_prop n (Waiting t k) = le_prop
Inside_prop n (A k) = le_prop
Inside_prop n (E k) = le_prop
Inside_prop n (R k) = le_prop

-- a phase on the bus ends now
abbrev pub leaves : List LogRow → ℕ → Stage → Bool
leaves log now Idle = false
leaves log now (Waiting t k) = false
leaves log now (A k) = (slice_index_or log k none).a_end == now
leaves log now (E k) = false
leaves log now (R k) = (slice_index_or log k none).end == now

-- the core's own phase ends now
abbrev pub executed : List LogRow → ℕ → Stage → Bool
executed log now Idle = false
executed log now (Waiting t k) = false
executed log now (A k) = false
executed log now (E k) = (slice_index_or log k none).e_end == now
executed log now (R k) = false

-- the core has no job
abbrev pub free : Stage → Bool
free Idle = true
free (Waiting t k) = false
free (A k) = false
free (E k) = false
free (R k) = false

-- the moment at which the phase ends, if one goes on
abbrev pub due_of : List LogRow → Stage → Option ℕ
due_of log Idle = None
due_of log (Waiting t k) = None
due_of log (A k) = Some (slice_index_or log k none).a_end
due_of log (E k) = Some (slice_index_or log k none).e_end
due_of log (R k) = Some (slice_index_or log k none).end

-- the row of a job whose turn begins at t
abbrev pub served : Turn → Job → ℕ → LogRow → LogRow
served First z t r = record { id = r.id; release = r.release; start = r.start; a_granted = t; a_end = t + z.a; e_end = t + z.a + z.e; r_granted = r.r_granted; end = r.end }
served Last z t r = record { id = r.id; release = r.release; start = r.start; a_granted = r.a_granted; a_end = r.a_end; e_end = r.e_end; r_granted = t; end = t + z.r }
