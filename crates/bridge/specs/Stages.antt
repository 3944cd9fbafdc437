-- The stages of a core and of the job that is on it. Assumes nothing.
use Rattle.std.specs.Prelude.{ℕ, Bool, ◌==◌}
use Rattle.argument.specs.Logs.{Turn, A, R}

-- How far a job is. A core without a job is idle; a core with a job waits, or is in A, E or R, as its job is.
pub data Stage : Type 0 where
  -- the job has not been started
  unstarted : Stage
  -- it is on its core, whose port waits for the A turn or for the R turn
  waiting : Turn → Stage
  -- the bus brings its pages in
  in_A : Stage
  -- it runs on its core, without the bus
  in_E : Stage
  -- the bus writes its pages back
  in_R : Stage
  -- it has ended, and left its core
  over : Stage

-- the stages in the order in which a job goes through them
abbrev pub number : Stage → ℕ
number unstarted = 0
number (waiting A) = 1
number in_A = 2
number in_E = 3
number (waiting R) = 4
number in_R = 5
number over = 6

-- two stages are the same
abbrev pub is : Stage → Stage → Bool
is stage other = number stage == number other
