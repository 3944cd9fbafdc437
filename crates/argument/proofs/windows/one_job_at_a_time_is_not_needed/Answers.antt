-- The lemma is applied here: where the function's attribute names it, the search stops before it finds the lemma's arguments.
use Rattle.argument.proofs.Instance.{overlap_or_not}
use Rattle.argument.proofs.windows.one_job_at_a_time_is_not_needed.Goals as goal

pub returns : goal.returns
returns c = overlap_or_not
