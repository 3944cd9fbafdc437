use Rattle.std.proofs.lemmas.List.{take-replicate}
use Rattle.runs.specs.declared.stage.Stage.TheVariants.{Idle}
use Rattle.runs.proofs.progress.Progress.open.Goals as goal

pub returns-clause-idle : goal.returns-clause-idle
returns-clause-idle c = rw (c.in-Ok.ensures.items, c.clear.ensures.items, c.idle_stages.ensures, c.from.ensures) (take-replicate c.args.cores 16 Idle c.requires.few)
