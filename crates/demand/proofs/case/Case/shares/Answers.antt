use Rattle.std.proofs.Common.{ℕ, ◌+◌, ◌*◌, ◌^◌, not, eqb, ◌∙◌, arith, rules}
use Rattle.std.proofs.lemmas.Iterator.{YieldsList-from_range, YieldsList-from_map}
use Rattle.std.proofs.lemmas.Iterator.Consumers.{YieldsList-at, sum_from_yields_List}
use Rattle.std.proofs.lemmas.Iterator.Adapters.{at_most_from_yields_List, fits_from_length}
use Rattle.std.proofs.lemmas.List.FromFn.{length-range_with_len}
use Rattle.tasks.specs.Limits.{times}
use Rattle.argument.specs.Sums.{on}
use Rattle.argument.specs.Demand.{share}
use Rattle.demand.specs.Cases.{plan, limits, own_core}
use Rattle.demand.proofs.Reckoning.{sum_of_range, below_top}
use Rattle.demand.proofs.case.Case.shares.Goals as goal

pub sum-requires-clause-fits : goal.sum-requires-clause-fits
sum-requires-clause-fits g c =
    let ports = YieldsList-at c.map.ensures.source (YieldsList-from_range 0 c.ports.result c.ports.result (cc) (omega arith)) in
    fits_from_length _ _ 255 (2 ^ 64) (at_most_from_yields_List ports (omega (arith, length-range_with_len 0 c.ports.result, c.ports.type_inv)))
    c.map.ensures.closure (omega arith) (λ x r q k. search (rules, arith))

pub returns : goal.returns
returns g c =
    let self = c.args.self.now in
    let of = λ (core : ℕ). on (not (eqb core (own_core self))) (share (plan self) core c.args.w (times c.args.turns (limits self (own_core self) core))) in
    let ports = YieldsList-at c.map.ensures.source (YieldsList-from_range 0 c.ports.result c.ports.result (cc) (omega arith)) in
    let top = 255 * (128 * (30000000 * 10000000)) + 1 in
    let within = below_top c.map.result c.sum.result top c.sum.ensures.runs
    (fits_from_length _ _ 255 top (at_most_from_yields_List ports (omega (arith, length-range_with_len 0 c.ports.result, c.ports.type_inv)))
    c.map.ensures.closure (omega arith) (λ x r q k. search (rules, arith))) in
    record {
      value = sum_from_yields_List c.map.result c.sum.result c.sum.ensures.ran (YieldsList-from_map _ of ports c.map.ensures.closure (λ x r q k. search rules))
          ∙ sum_of_range of c.ports.result ∙ cc;
      bound = omega (arith, within);
    }
