-- The rows that are made: of a script's row its job, and of a job its row in the log. Assumes nothing.
use Rattle.std.specs.Prelude.{ℕ}
use Rattle.tasks.specs.declared.task.Row.{Row}
use Rattle.runs.specs.declared.rows.Job.{Job}
use Rattle.runs.specs.declared.rows.LogRow.{LogRow}
use Rattle.runs.specs.declared.rows.ScriptRow.{ScriptRow}

-- the job of a script row whose task is at a place
abbrev pub job_on : ℕ → Row → ScriptRow → Job
job_on place task row = record { task = place; id = task.id; core = task.core; rank = task.rank; release = row.release; a = row.a; e = row.e; r = row.r }

-- a log row before the run
abbrev pub opened : Job → LogRow
opened job = record { id = job.id; release = job.release; start = 0; a_granted = 0; a_end = 0; e_end = 0; r_granted = 0; end = 0 }
