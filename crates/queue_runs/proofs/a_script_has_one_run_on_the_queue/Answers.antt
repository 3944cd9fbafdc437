use Rattle.queue_runs.proofs.Lines.{picks, one_run}
use Rattle.queue_runs.proofs.a_script_has_one_run_on_the_queue.Goals as goal

pub returns : goal.returns
returns c = record { picks = picks; single = one_run }
