use Rattle.std.proofs.Common.{◌+◌, ◌<◌, ◌≤◌, ap, ◌∙◌, arith, rules}
use Rattle.argument.specs.Demand.{demand}
use Rattle.demand.specs.Cases.{plan, limits}
use Rattle.demand.proofs.Searching.{none_further}
use Rattle.demand.proofs.case.Case.outcome.Goals as goal

pub loop-needed-preserved : goal.loop-needed-preserved
loop-needed-preserved g c =
    let self = c.args.self.now in
    let past : c.loop-needed.w < c.demand-needed.result = search rules in
    let within : c.demand-needed.result ≤ c.task.result.now.row.deadline = search rules in (
      omega (arith, past),
      omega (arith, within),
      none_further (plan self) (limits self) self.place c.loop-needed.w c.demand-needed.result c.loop-needed.invariant.2 (omega (arith, c.demand-needed.ensures)),
    )

pub returns-then-needed-from-2 : goal.returns-then-needed-from-2
returns-then-needed-from-2 g c =
    let self = c.args.self.now in
    let deadline = ap (λ row. row.deadline) c.task.ensures in
    let past : c.task.result.now.row.deadline < c.demand-needed.result = search rules in (
      none_further (plan self) (limits self) self.place c.loop-needed.w (((plan self).row self.place).deadline + 1)
          c.loop-needed.invariant.2 (omega (arith, past, deadline, c.demand-needed.ensures)),
      c.demand.ensures ∙ ap (demand (plan self) (limits self) self.place) deadline,
    )
