-- The laws of every arbiter that a bus line can spell, for callers that know their arbiter. Assumes nothing.
use Rattle.bus.specs.Means.{Laws}
use Rattle.queue.specs.Account.{queue_means}
use Rattle.queue.specs.Laws.{queue_laws}
use Rattle.round_robin.specs.Account.{round_means}
use Rattle.round_robin.specs.Laws.{round_laws}
use Rattle.favour.specs.Account.{favour_means}
use Rattle.favour.specs.Laws.{favour_laws}
use Rattle.either_arbiter.specs.Account.{either_means}
use Rattle.bus_line.specs.Lines.{base_means, bus_means}
use Rattle.either_arbiter.specs.Laws.{either_laws}

base_laws : Laws base_means
base_laws = either_laws queue_means round_means queue_laws round_laws

pub bus_laws : Laws bus_means
bus_laws =
    let one = favour_laws base_means base_laws in
    either_laws base_means (either_means (favour_means base_means) (favour_means (favour_means base_means))) base_laws
    (either_laws (favour_means base_means) (favour_means (favour_means base_means)) one (favour_laws (favour_means base_means) one))
