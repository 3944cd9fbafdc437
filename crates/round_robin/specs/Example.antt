-- One state of a round robin that shows the wrap around the ring. Assumes nothing.
use Rattle.std.specs.Prelude.{◌≡◌, true, false, None}
use Rattle.bus.specs.Masks.{has}
use Rattle.round_robin.specs.declared.RoundRobin.{RoundRobin}

-- 3 ports, port 0 was granted last, ports 0 and 2 wait, and nobody is in service
pub record ZeroAndTwoWait (s : RoundRobin) : Type 0 where
  pub ports : s.ports.count ≡ 3
  pub next : s.next ≡ 1
  pub zero_waits : has s.mask 0 ≡ true
  pub one_does_not : has s.mask 1 ≡ false
  pub two_waits : has s.mask 2 ≡ true
  pub served : s.served ≡ None
