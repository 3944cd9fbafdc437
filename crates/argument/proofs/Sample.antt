-- The box with three tasks: its log by computing, its windows by the search.
use Rattle.std.proofs.Common.{refl, Some}
use Rattle.argument.specs.Samples.{box, one_each, favours_0, first_jobs, lone, TheBoxAndItsLogKeepTheLaws, TheBoxUnderTheQueue, TheBoxWithPort0Favoured, TheBoxWithANearerDeadline, TheBoxWithALateTask, ThreeOfFourPhases, ALoneTaskNeedsItsOwnTicks}
use Rattle.argument.proofs.Checks.{sound_plan, keeps_the_laws}
use Rattle.argument.proofs.Least.{jumping_settles}
use Rattle.argument.proofs.Reach.{share_greatest}

pub log_keeps : TheBoxAndItsLogKeepTheLaws
log_keeps = (sound_plan (box 50) refl, keeps_the_laws (box 50) one_each first_jobs refl)

pub queue : TheBoxUnderTheQueue
queue = (jumping_settles (box 50) one_each 0, jumping_settles (box 50) one_each 1, jumping_settles (box 50) one_each 2)

pub favoured : TheBoxWithPort0Favoured
favoured = (jumping_settles (box 50) favours_0 0, jumping_settles (box 50) favours_0 1, jumping_settles (box 50) favours_0 2)

pub nearer : TheBoxWithANearerDeadline
nearer = (jumping_settles (box 20) one_each 0, jumping_settles (box 20) one_each 1, jumping_settles (box 20) one_each 2)

pub late : TheBoxWithALateTask
late = (jumping_settles (box 19) one_each 0, jumping_settles (box 19) one_each 2)

pub phases : ThreeOfFourPhases
phases = (share_greatest (box 50) 1 31 (Some 3), share_greatest (box 50) 1 31 (Some 0))

pub one_task : ALoneTaskNeedsItsOwnTicks
one_task = jumping_settles lone one_each 0
