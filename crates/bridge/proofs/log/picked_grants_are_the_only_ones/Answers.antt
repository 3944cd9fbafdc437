-- The lemma is applied here: where the function's attribute names it, the search stops before it finds the lemma's arguments.
use Rattle.bridge.proofs.Picked.{the_only_ones}
use Rattle.bridge.proofs.log.picked_grants_are_the_only_ones.Goals as goal

pub returns : goal.returns
returns g c = the_only_ones g.B.Arbiter.means
