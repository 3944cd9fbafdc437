use Rattle.std.proofs.Common.{◌≡◌, max, map, is_some, unwrap_or, sym, ap, ◌∙◌, rules}
use Rattle.std.specs.List.{filter, reduce}
use Rattle.std.proofs.lemmas.List.{take_rest}
use Rattle.std.proofs.lemmas.Iterator.{YieldsList-from_slice, YieldsList-from_map}
use Rattle.std.proofs.lemmas.Iterator.Consumers.{YieldsList-at, YieldsList-from_filter, max_from_yields_List}
use Rattle.std.proofs.lemmas.Iterator.Adapters.{option_map_id}
use borrow.Author.Tests.{tests}
use Rattle.tasks.specs.declared.task.Task.{Task}
use Rattle.tasks.specs.Rows.{cost}
use Rattle.argument.specs.Plans.{lower}
use Rattle.demand.proofs.OwnCore.{longest_after, some_after}
use Rattle.demand.proofs.own.blocker.Goals as goal

-- what the chain answers, over a slice that leaves none of the tasks out
chain : (c : goal.After-max) → c.max.result ≡ reduce max (map (λ (other : Task). cost other.row) (filter (λ (other : Task). lower c.args.task.now.row other.row) c.args.tasks.now))
chain c =
    sym (option_map_id c.max.result)
    ∙ max_from_yields_List {v = λ x. x} c.map.result c.max.result c.max.ensures.ran
    (YieldsList-from_map _ (λ (other : Task). cost other.row)
    (YieldsList-at c.map.ensures.source (YieldsList-from_filter _ (λ (other : Task). lower c.args.task.now.row other.row) (YieldsList-at c.filter.ensures.source (YieldsList-from_slice c.args.tasks.now (c.iter.ensures.rest ∙ search (take_rest c.args.tasks.now 0, rules)))) c.filter.ensures.closure (λ x r q k. search (rules, tests))))
    c.map.ensures.closure (λ x r q k. search (rules, tests)))

pub returns-clause-ticks : goal.returns-clause-ticks
returns-clause-ticks c = λ cores. ap (λ o. unwrap_or o 0) (chain c) ∙ longest_after c.args.task.now.row c.args.tasks.now

pub returns-clause-some : goal.returns-clause-some
returns-clause-some c = ap is_some (chain c) ∙ some_after c.args.task.now.row c.args.tasks.now
