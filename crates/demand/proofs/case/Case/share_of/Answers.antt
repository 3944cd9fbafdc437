use Rattle.std.proofs.Common.{◌≡◌, sym, ap, ◌∙◌}
use Rattle.tasks.specs.Limits.{times}
use Rattle.argument.specs.Demand.{share}
use Rattle.demand.specs.Cases.{plan, limits, own_core}
use Rattle.demand.specs.Rows.{rows_of}
use Rattle.demand.proofs.Reckoning.{other_core, kept_share}
use Rattle.demand.proofs.case.Case.share_of.Goals as goal

pub returns-clause-value : goal.returns-clause-value
returns-clause-value g c =
    let self = c.args.self.now in
    let limit = times c.args.turns (limits self (own_core self) c.args.core) in
    let own = ap (λ row. row.core) c.task.ensures in
    let limited = c.in-Ok.ensures.limit in
    let capped = c.new.ensures in
    let taken = c.share.ensures.value in
    let fetched = self.fetched in
    let kept = kept_share (plan self).cores (rows_of self.tasks.now) c.args.core c.args.w limit in
    let is : c.share.result ≡ share (plan self) c.args.core c.args.w limit = cc in
    other_core c.args.core (own_core self) c.share.result _ (λ e. c.if-core-own.false (e ∙ sym own)) is
