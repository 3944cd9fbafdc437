use Rattle.queue_runs.proofs.BoxRun.{box_run}
use Rattle.queue_runs.proofs.the_log_of_the_box_on_the_queue.Goals as goal

pub returns : goal.returns
returns c = box_run
