-- The lemma is applied here: where the function's attribute names it, the search stops before it finds the lemma's arguments.
use Rattle.argument.proofs.Instance.{in_time}
use Rattle.argument.proofs.windows.every_job_ends_within_its_window.Goals as goal

pub returns : goal.returns
returns c = in_time
