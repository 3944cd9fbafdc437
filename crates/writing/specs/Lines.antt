-- What was settled, in words: `1 0 window 31`. Assumes nothing.
use Rattle.std.specs.Prelude.{ℕ, zero, suc, List, [], ◌∷◌, ◌++◌, length, codes, decimal, slice_index_or}
use Rattle.tasks.specs.declared.outcome.Outcome.{Outcome}
use Rattle.tasks.specs.declared.outcome.Outcome.TheVariants.{Window, Late}
use Rattle.tasks.specs.declared.task.Row.{Row}
use Rattle.tasks.specs.Rows.{no_row}
use Rattle.demand.specs.Settled.{late_count}

abbrev pub outcome_text : Outcome → List ℕ
outcome_text (Window ticks) = codes " window " ++ decimal ticks
outcome_text (Late ticks) = codes " late " ++ decimal ticks

-- id, core, `window` or `late`, the number, with single spaces; byte 10 ends the line
abbrev pub line : Row → Outcome → List ℕ
line row outcome = decimal row.id ++ (codes " " ++ (decimal row.core ++ (outcome_text outcome ++ (10 ∷ []))))

-- the lines of the tasks at the first places
abbrev pub first_lines : List Row → List Outcome → ℕ → List ℕ
first_lines rows outcomes zero = []
first_lines rows outcomes (suc i) = first_lines rows outcomes i ++ line (slice_index_or rows i no_row) (slice_index_or outcomes i (Late 0))

-- `late` and the number of late tasks
abbrev pub last_line : List Outcome → List ℕ
last_line outcomes = codes "late " ++ (decimal (late_count outcomes) ++ (10 ∷ []))

abbrev pub printed : List Row → List Outcome → List ℕ
printed rows outcomes = first_lines rows outcomes (length rows) ++ last_line outcomes
