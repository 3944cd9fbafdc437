use Rattle.std.proofs.Common.{◌≡◌, ◌^◌, ◌<◌, false, subst}
use lib.Bits.{bit_xor}
use Rattle.std.proofs.lemmas.Bool.{or_from}
use Rattle.std.proofs.lemmas.Option.{same_Some}
use Rattle.bus.proofs.Masks.{lowest, flag, xor_below, has_xor_same}
use Rattle.makers_arbiter.specs.Turnover.{in_either}
use Rattle.makers_arbiter.proofs.Steps.{found, still_apart}
use Rattle.makers_arbiter.proofs.calls.BatchesArbiter.grant.Goals as goal

pub invariant_of-self : goal.invariant_of-self
invariant_of-self c =
    let s = c.args.self.now in
    let r = c.turned_over-batch.result in
    let f = found s r.0 r.1 c.turned_over-batch.ensures.batch c.turned_over-batch.ensures.behind c.if-batch-eq0.false in
    let e = flag _ s.ports.count f.port s.ports.few in record {
      low = rw e (xor_below r.0 _ s.ports.count f.opens.low f.port);
      fresh = f.opens.fresh;
      apart = rw e (still_apart s r.0 r.1 _ f);
      port = λ p g. subst (λ x. x < s.ports.count) (same_Some _ _ g) f.port;
      gone = rw e (λ p g. subst (λ x. in_either (bit_xor r.0 (2 ^ lowest r.0)) r.1 x ≡ false) (same_Some _ _ g) (or_from _ _ (has_xor_same r.0 _ f.waited) (f.opens.apart _ f.waited)));
    }
