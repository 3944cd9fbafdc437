use Rattle.std.proofs.Common.{vec_items, ap, ◌∙◌, arith}
use Rattle.demand.specs.declared.offer.Phase.TheVariants.{A, R}
use Rattle.demand.specs.Offers.{listing}
use Rattle.demand.specs.Rows.{row_at}
use Rattle.demand.proofs.Fetching.{tasks_more, offers_more}
use Rattle.demand.proofs.work.Work.fetch.Goals as goal

pub loop-place-preserved : goal.loop-place-preserved
loop-place-preserved c =
    let rows = c.args.rows.now in let i = c.loop-place.place in
    let is = c.in-Ok.ensures.1 in (
      tasks_more rows i (vec_items c.loop-place.self.tasks) (vec_items c.push_reserved.new.self) c.in-Ok.task c.loop-place-test.true is
          c.loop-place.invariant.0 c.push_reserved.ensures.items,
      offers_more (row_at rows) i (vec_items c.loop-place.self.offers.items) (vec_items c.insert.new.self.items) (vec_items c.insert-in-loop-place.new.self.items)
          c.new.result c.new-in-loop-place.result
          (c.new.ensures ∙ ap (λ row. listing row i A) is) (c.new-in-loop-place.ensures ∙ ap (λ row. listing row i R) is)
          c.loop-place.invariant.1 (c.insert.ensures.items) (c.insert-in-loop-place.ensures.items),
      omega (arith, c.push_reserved.ensures.len, c.loop-place.invariant.2),
      omega (arith, c.insert.ensures.len, c.insert-in-loop-place.ensures.len, c.loop-place.invariant.3),
    )
