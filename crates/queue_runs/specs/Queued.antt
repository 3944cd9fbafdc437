-- Runs on the queue: who is granted follows from who joined. Assumes nothing.
use Rattle.std.specs.Prelude.{◌≡◌, ℕ, List, [], ◌∷◌, ◌++◌}
use Rattle.argument.specs.Plans.{Plan}
use Rattle.bus.specs.Turns.{Idle}
use Rattle.bus.specs.Courses.{Event, joins, grants, ends, Course}
use Rattle.queue.specs.declared.Queue.{Queue}
use Rattle.queue.specs.Account.{queue_means, queue_meaning}
use Rattle.bridge.specs.Scripts.{Script}
use Rattle.bridge.specs.Runs.{run}
use Rattle.bridge.specs.Promises.{Picks}

-- a line without its first
abbrev pub behind : List ℕ → List ℕ
behind [] = []
behind (port ∷ line) = line

-- its first; of an empty line nothing is asked
abbrev pub front : List ℕ → ℕ
front [] = 0
front (port ∷ line) = port

-- the ports that wait after these events, the latest of which stands first; nobody waited before
abbrev pub line_after : List Event → List ℕ
line_after [] = []
line_after (joins port ∷ es) = line_after es ++ (port ∷ [])
line_after (grants port ∷ es) = behind (line_after es)
line_after (ends ∷ es) = line_after es

-- an idle queue grants whoever has waited longest
abbrev pub TheQueueLeavesNoChoice : Type 0
TheQueueLeavesNoChoice = (s : Queue) → Idle (queue_meaning s) → Picks queue_means s (λ es. front (line_after es))

-- so two runs of one script from idle queues are the same at every moment
abbrev pub AScriptHasOneRunOnTheQueue : Type 0
AScriptHasOneRunOnTheQueue = (plan : Plan) (script : Script) (s s' t t' : Queue) (choices choices' : List ℕ) (n : ℕ)
    → Idle (queue_meaning s) → Idle (queue_meaning s')
    → Course queue_means s (run plan script choices n).events t → Course queue_means s' (run plan script choices' n).events t'
    → run plan script choices n ≡ run plan script choices' n
