use Rattle.std.proofs.Common.{min, ◌++◌, length, refl, sym, ap, ◌∙◌, rules}
use Rattle.std.specs.Option.{option_to_list}
use Rattle.std.specs.List.{filter_map, reduce}
use Rattle.std.proofs.lemmas.Iterator.{YieldsList-from_slice}
use Rattle.std.proofs.lemmas.Iterator.Adapters.{YieldsList-from_once, option_map_id, serves_from_places}
use Rattle.std.proofs.lemmas.Iterator.Consumers.{YieldsList-at, YieldsList-from_filter_map, YieldsList-from_chain, min_from_yields_List}
use Rattle.runs.specs.Machine.{due_of, Inside}
use Rattle.runs.proofs.Showing.{inside_read}
use Rattle.runs.proofs.moment.next_moment.Goals as goal

pub min-requires-clause-can : goal.min-requires-clause-can
min-requires-clause-can c = (
  λ _. tt,
  λ _. (
    tt,
    tt,
    serves_from_places (YieldsList-from_slice c.args.stages.now (cc)) (λ x q k. search rules)
        (λ x k l e. let i : Inside (length c.args.log.now) x.now = inside_read _ _ c.args.stages.now x.now k refl c.requires l e in search rules),
  ),
)

pub returns : goal.returns
returns c =
    let w = min_from_yields_List c.chain.result c.min.result c.min.ensures.ran (YieldsList-from_chain (YieldsList-at c.chain.ensures.first (YieldsList-from_once c.next_release.result c.into_iter.ensures.into_iter_gives.0))
    (YieldsList-at c.chain.ensures.second (YieldsList-from_filter_map _ (due_of c.args.log.now) (YieldsList-at c.filter_map-ends.ensures.source (YieldsList-from_slice c.args.stages.now (cc))) c.filter_map-ends.ensures.closure (λ x r q k. search rules)))
    c.chain.ensures.first_done c.chain.ensures.second_done) in
    sym (option_map_id c.min.result) ∙ w ∙ ap (λ o. reduce min (option_to_list o ++ filter_map (due_of c.args.log.now) c.args.stages.now)) c.next_release.ensures
