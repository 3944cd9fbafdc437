-- What the structs that C lays out say, in the library's own values. Assumes nothing.
use Rattle.std.specs.Prelude.{◌≡◌, ℕ}
use Rattle.tasks.specs.declared.task.Row.{Row}
use Rattle.tasks.specs.declared.outcome.Outcome.{Outcome}
use Rattle.tasks.specs.declared.outcome.Outcome.TheVariants.{Window, Late}
use Rattle.ffi.specs.declared.Numbers.{Numbers}
use Rattle.ffi.specs.declared.Found.{Found}

-- field by field
abbrev pub SameNumbers : Numbers → Row → Type 0
SameNumbers task row =
    row ≡ record { id = task.id; core = task.core; rank = task.rank; spacing = task.spacing; deadline = task.deadline; a = task.a; e = task.e; r = task.r }

abbrev pub found : Outcome → Found
found (Window ticks) = record { late = 0; ticks = ticks }
found (Late ticks) = record { late = 1; ticks = ticks }

abbrev pub TellsOutcome : Outcome → Found → Type 0
TellsOutcome outcome f = f ≡ found outcome
