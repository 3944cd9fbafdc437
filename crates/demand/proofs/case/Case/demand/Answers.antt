use Rattle.std.proofs.Common.{◌∙◌}
use Rattle.demand.specs.Cases.{plan, limits}
use Rattle.demand.specs.Rows.{rows_of}
use Rattle.demand.proofs.Reckoning.{demand_is}
use Rattle.demand.proofs.case.Case.demand.Goals as goal

pub returns : goal.returns
returns g c =
    let self = c.args.self.now in let cores = (plan self).cores in
    demand_is cores (rows_of self.tasks.now) (limits self) self.place c.args.w c.task-task.result.now.row
    c.from.result c.jobs_within-jobs.result.ticks c.shares.result c.jobs_within-jobs.result.count c.turns_of-turns.result c.is_some.result
    c.task-task.ensures
    (c.from.ensures ∙ c.unwrap_or.ensures ∙ c.blocker-blocker.ensures.ticks cores)
    (c.jobs_within-jobs.ensures.ticks cores)
    c.jobs_within-jobs.ensures.count
    (c.is_some.ensures ∙ c.blocker-blocker.ensures.some)
    c.turns_of-turns.ensures
    c.shares.ensures.value
