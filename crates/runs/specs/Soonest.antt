-- The soonest of some moments. Assumes nothing.
use Rattle.std.specs.Prelude.{ℕ, min, cond, List, ◌++◌, length, get_or, Some, None, Option, nat_lt, option_to_list}
use Rattle.std.specs.List.{filter_map, reduce}
use Rattle.runs.specs.declared.rows.Job.{Job}
use Rattle.runs.specs.declared.rows.LogRow.{LogRow}
use Rattle.runs.specs.declared.stage.Stage.{Stage}
use Rattle.runs.specs.Machine.{due_of}
use Rattle.runs.specs.Shown.{no_job}

-- the release of the next row, if there is one
abbrev pub release_of : List Job → ℕ → Option ℕ
release_of jobs upto = cond (nat_lt upto (length jobs)) (Some (get_or jobs upto no_job).release) None

-- the soonest of that and of the ends of the cores' phases
abbrev pub soonest : List Job → ℕ → List LogRow → List Stage → Option ℕ
soonest jobs upto log stages = reduce min (option_to_list (release_of jobs upto) ++ filter_map (due_of log) stages)
