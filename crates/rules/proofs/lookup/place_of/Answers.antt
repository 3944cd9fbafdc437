use Rattle.std.proofs.Common.{◌≡◌, arith, rules}
use Rattle.std.proofs.lemmas.Iterator.{YieldsList-from_slice}
use Rattle.std.proofs.lemmas.Iterator.Search.{position_from_yields_List}
use Rattle.rules.specs.Rules.{place_of}
use Rattle.rules.proofs.lookup.place_of.Goals as goal

-- What `position` finds is stated, so that a step laid after it is judged by what it does: there the check alone gives up.
pub returns : goal.returns
returns c =
    let found : c.position.result ≡ place_of c.args.id c.args.rows.now = position_from_yields_List _ _ _ _ c.position.ensures.ran (YieldsList-from_slice _ c.iter.ensures.rest) (λ row passes q k. search rules) in
    grind arith
