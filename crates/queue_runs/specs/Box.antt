-- The box with three tasks on the queue: all three released at 0 in the order 1, 2, 3, with full lengths. Assumes nothing.
use Rattle.std.specs.Prelude.{◌≡◌, ℕ, ◌<◌, ◌≤◌, List}
use Rattle.argument.specs.Samples.{box, first_jobs}
use Rattle.bus.specs.Turns.{Idle}
use Rattle.bus.specs.Courses.{Course}
use Rattle.queue.specs.declared.Queue.{Queue}
use Rattle.queue.specs.Account.{queue_means, queue_meaning}
use Rattle.bridge.specs.Scripts.{Script}
use Rattle.bridge.specs.States.{log_of, Complete}
use Rattle.bridge.specs.Runs.{run}

-- each task once, at 0, with its longest phases
abbrev pub all_at_0 : Script
all_at_0 = record {
  size = 3;
  row = λ k. record { task = k; release = 0; a = ((box 50).row k).a; e = ((box 50).row k).e; r = ((box 50).row k).r };
}

-- From moment 20 on, all three have ended, and the log's rows are these: the task's place, its release, start, A granted, A end, E end, R
-- granted, end. 0 0 0 0 2 7 7 8, then 1 0 8 8 11 17 17 19, then 2 0 0 2 6 14 14 16.
abbrev pub TheLogOfTheBoxOnTheQueue : Type 0
TheLogOfTheBoxOnTheQueue = (s t : Queue) (choices : List ℕ) (n : ℕ) → Idle (queue_meaning s) → s.ports.count ≡ 2 → 20 ≤ n
    → Course queue_means s (run (box 50) all_at_0 choices n).events t
    → Complete all_at_0 (run (box 50) all_at_0 choices n)
    × ((k : ℕ) → k < 3 → (log_of all_at_0 (run (box 50) all_at_0 choices n)).job k ≡ first_jobs.job k)
