use Rattle.std.proofs.Common.{◌≡◌, Some, vec_items, sym, ◌∙◌, rules, tests}
use Rattle.std.specs.List.{position}
use Rattle.std.proofs.lemmas.Iterator.{YieldsList-from_slice}
use Rattle.std.proofs.lemmas.Iterator.Search.{position_from_yields_List}
use Rattle.runs.specs.Pool.{chosen, without}
use Rattle.runs.proofs.Pools.{chosen_below, without_below}
use Rattle.runs.proofs.Places.{of, take_is, take_none}
use Rattle.runs.proofs.ready.take_ready.Goals.{After-position, After-take}
use Rattle.runs.proofs.ready.take_ready.Goals as goal

place : (c : After-position) → c.position.result ≡ position (of c.args.core) (vec_items c.args.ready.now.items)
place c = position_from_yields_List (of c.args.core) _ _ _ c.position.ensures.ran (YieldsList-from_slice (vec_items c.args.ready.now.items) (cc)) (λ x b q k. search (rules, tests))

taken : (c : After-take) → (Some c.take.result.row ≡ chosen c.args.core (vec_items c.args.ready.now.items)) × (vec_items c.take.new.self.items ≡ without c.args.core (vec_items c.args.ready.now.items))
taken c =
    let w = take_is c.args.core (vec_items c.args.ready.now.items) c.take.result c.in_ok-i.i (sym c.in_ok-i.was ∙ place (goal.at.returns-clause-job c).After-position) c.take.ensures.value in
    (w.0, c.take.ensures.items ∙ w.1)

pub returns-in_err-i-clause-job : goal.returns-in_err-i-clause-job
returns-in_err-i-clause-job c = c.from_residual.ensures ∙ (take_none c.args.core (vec_items c.args.ready.now.items) (sym c.in_err-i.was ∙ place (goal.at.returns-in_err-i-clause-job c).After-position)).0

pub returns-in_err-i-clause-items : goal.returns-in_err-i-clause-items
returns-in_err-i-clause-items c = (take_none c.args.core (vec_items c.args.ready.now.items) (sym c.in_err-i.was ∙ place (goal.at.returns-in_err-i-clause-items c).After-position)).1

pub returns-clause-job : goal.returns-clause-job
returns-clause-job c = (taken c).0

pub returns-clause-items : goal.returns-clause-items
returns-clause-items c = (taken c).1

pub returns-clause-row : goal.returns-clause-row
returns-clause-row c = λ n h. chosen_below n c.args.core (vec_items c.args.ready.now.items) h c.take.result.row (sym (taken c).0)

pub returns-clause-below : goal.returns-clause-below
returns-clause-below c = λ n h. rw (taken c).1 (without_below n c.args.core (vec_items c.args.ready.now.items) h)
