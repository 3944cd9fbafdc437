use Rattle.std.proofs.Common.{refl, ap, arith}
use lib.Bits.{bit_xor}
use Rattle.std.proofs.lemmas.Option.{same_Some}
use Rattle.bus.proofs.Masks.{flag, xor_below, has_xor_same}
use Rattle.round_robin.proofs.Steps.{found}
use Rattle.round_robin.proofs.calls.RoundRobinArbiter.grant.Goals as goal

pub invariant_of-self-clause-low : goal.invariant_of-self-clause-low
invariant_of-self-clause-low c =
    let s = c.args.self.now in
    let f = found s c.from-start.result c.rotate_right-ahead.result c.if-self-eq0.false c.from-start.ensures c.rotate_right-ahead.ensures in
    rw (flag _ s.ports.count f.port s.ports.few) (xor_below s.mask _ s.ports.count s.low f.port)

pub invariant_of-self-clause-near : goal.invariant_of-self-clause-near
invariant_of-self-clause-near c =
    let f = found c.args.self.now c.from-start.result c.rotate_right-ahead.result c.if-self-eq0.false c.from-start.ensures c.rotate_right-ahead.ensures in
    omega (arith, f.port)

pub invariant_of-self-clause-gone : goal.invariant_of-self-clause-gone
invariant_of-self-clause-gone c p g =
    let s = c.args.self.now in
    let f = found s c.from-start.result c.rotate_right-ahead.result c.if-self-eq0.false c.from-start.ensures c.rotate_right-ahead.ensures in
    rw (flag _ s.ports.count f.port s.ports.few, ← same_Some _ _ g) (has_xor_same s.mask _ f.waited)

pub returns-clause-account : goal.returns-clause-account
returns-clause-account c _ =
    let s = c.args.self.now in
    let f = found s c.from-start.result c.rotate_right-ahead.result c.if-self-eq0.false c.from-start.ensures c.rotate_right-ahead.ensures in record {
      unserved = c.in_ok-check_free.ensures;
      waited = f.waited;
      first = f.first;
      ports = refl;
      mask = ap (bit_xor s.mask) (flag _ s.ports.count f.port s.ports.few);
      next = refl;
      served = refl;
    }
