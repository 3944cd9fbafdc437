use Rattle.std.proofs.Common.{◌≡◌, ◌+◌, ◌*◌, ◌≤◌, map, drop}
use Rattle.argument.specs.LongestFirst.{taken}
use Rattle.demand.specs.Caps.{limit_of}
use Rattle.demand.specs.Offers.{listed, of_core, phases_in}
use Rattle.demand.proofs.share.share.Given as goal

abbrev pub invariant-loop-offer : goal.invariant-loop-offer
invariant-loop-offer l =
    (l.ticks + taken (limit_of l.left) (phases_in l.w (of_core l.core (map listed (drop l.offer-index l.offers)))) ≡ taken (limit_of l.initial.left) (phases_in l.w (of_core l.core (map listed l.offers))))
    × (l.ticks ≤ l.offer-index * ((l.w + 20000000) * 10000000))
