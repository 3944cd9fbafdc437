-- The bytes of a plan: the version, the platform, then the tasks in plan order. Assumes nothing.
use Rattle.std.specs.Prelude.{ℕ, ◌+◌, List, [], ◌∷◌, ◌++◌, length}
use Rattle.tasks.specs.declared.task.Row.{Row}
use Rattle.sheets.specs.Bytes.{in_two, in_four}
use Rattle.sheets.specs.Spelled.{Spelling}

-- cores, bottom arbiter, number of favours, each favoured port
abbrev pub platform_bytes : ℕ → ℕ → List ℕ → List ℕ
platform_bytes cores bottom favours = in_two (4 + length favours) ++ (1 ∷ cores ∷ bottom ∷ length favours ∷ favours)

-- id, core, rank, spacing, deadline, a, e, r
abbrev pub body_bytes : Row → List ℕ
body_bytes row =
    in_two row.id ++ (row.core ∷ row.rank ∷ (in_four row.spacing ++ (in_four row.deadline ++ (in_four row.a ++ (in_four row.e ++ in_four row.r)))))

abbrev pub task_bytes : Row → List ℕ
task_bytes row = 0 ∷ 25 ∷ 2 ∷ body_bytes row

abbrev pub tasks_bytes : List Row → List ℕ
tasks_bytes [] = []
tasks_bytes (row ∷ rows) = task_bytes row ++ tasks_bytes rows

abbrev pub written : Spelling → List ℕ
written plan = 1 ∷ (platform_bytes plan.cores plan.bottom plan.favours ++ tasks_bytes plan.rows)
