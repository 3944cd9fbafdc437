-- The rows behind tasks, and sums over them that no plan's cores enter. Assumes nothing.
use Rattle.std.specs.Prelude.{ℕ, Bool, List, map, length, slice_index_or}
use Rattle.tasks.specs.declared.task.Row.{Row}
use Rattle.tasks.specs.declared.task.Task.{Task}
use Rattle.tasks.specs.Rows.{no_row}
use Rattle.argument.specs.Sums.{sum, any}
use Rattle.argument.specs.Plans.{lower}
use Rattle.argument.specs.Demand.{jobs}

abbrev pub rows_of : List Task → List Row
rows_of tasks = map (λ task. task.row) tasks

-- some task may be on the core already
abbrev pub lower_any : List Row → Row → Bool
lower_any rows task = any (length rows) (λ place. lower task (slice_index_or rows place no_row))

-- all jobs that go first
abbrev pub jobs_count : List Row → Row → ℕ → ℕ
jobs_count rows task w = sum (length rows) (λ place. jobs task w (slice_index_or rows place no_row))

-- the row at a place
abbrev pub row_at : List Row → ℕ → Row
row_at rows place = slice_index_or rows place no_row
