-- Ports 0 and 2 wait in a ring of three, and 0 was granted last. Assumes nothing.
use Rattle.std.proofs.Common.{◌≡◌, ℕ, true, arith}
use Rattle.std.proofs.lemmas.Bool.Decides.{nat_tests}
use Rattle.bus.specs.Masks.{has}
use Rattle.bus.proofs.Masks.{has_below, has_xor_same, has_xor_other}
use Rattle.round_robin.specs.declared.RoundRobin.{RoundRobin}
use Rattle.round_robin.specs.Account.{RoundGrants, RoundEnds}
use Rattle.round_robin.specs.Example.{ZeroAndTwoWait}

pub two_first : (s t : RoundRobin) (c : ℕ) → ZeroAndTwoWait s → RoundGrants s c t → c ≡ 2
two_first s t c z g = grind (arith, nat_tests, has_below s.mask c s.ports.count s.low g.waited, g.first 2 z.two_waits)

-- after the turn of 2 only 0 waits
pub zero_waits : (s t u : RoundRobin) (c : ℕ) → ZeroAndTwoWait s → RoundGrants s c t → RoundEnds t u → has u.mask 0 ≡ true
zero_waits s t u c z g d = grind (arith, two_first s t c z g, has_xor_other s.mask c 0)

pub zero_second : (s t u v : RoundRobin) (c d : ℕ) → ZeroAndTwoWait s → RoundGrants s c t → RoundEnds t u → RoundGrants u d v → d ≡ 0
zero_second s t u v c d z g e h = grind (arith, two_first s t c z g, has_below u.mask d u.ports.count u.low h.waited, has_xor_other s.mask c 1, has_xor_same s.mask c g.waited)
