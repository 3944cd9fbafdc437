use Rattle.std.proofs.Common.{◌≡◌, ◌-◌, take, false, ap, ◌∙◌, subst, arith}
use Rattle.std.proofs.lemmas.Map.Keys.{IsDistinct-tail}
use Rattle.std.proofs.lemmas.Option.{same_Some}
use Rattle.std.specs.Prelude.{nat_eq}
use Rattle.queue.specs.Lines.{among, Apart}
use Rattle.queue.specs.Line.{apart_first}
use Rattle.queue.proofs.Steps.{granted_line}
use Rattle.queue.proofs.calls.QueueArbiter.grant.Goals as goal

pub invariant_of-self-clause-below : goal.invariant_of-self-clause-below
invariant_of-self-clause-below c p e =
    let s = c.args.self.now in
    let is = granted_line s c.rotate_left.new.self c.if-self-eq0.false c.rotate_left.ensures.after in
    s.below p (ap (among p) is ∙ grind (arith, e))

pub invariant_of-self-clause-once : goal.invariant_of-self-clause-once
invariant_of-self-clause-once c =
    let s = c.args.self.now in
    IsDistinct-tail nat_eq _ _ (subst Apart (granted_line s c.rotate_left.new.self c.if-self-eq0.false c.rotate_left.ensures.after) s.once)

pub invariant_of-self-clause-port : goal.invariant_of-self-clause-port
invariant_of-self-clause-port c p g =
    let s = c.args.self.now in
    let is = granted_line s c.rotate_left.new.self c.if-self-eq0.false c.rotate_left.ensures.after in
    s.below p (ap (among p) is ∙ grind (arith, same_Some _ _ g))

pub invariant_of-self-clause-gone : goal.invariant_of-self-clause-gone
invariant_of-self-clause-gone c p g =
    let s = c.args.self.now in
    subst (λ x. among x (take (s.len - 1) c.rotate_left.new.self) ≡ false) (same_Some _ _ g) (apart_first _ _ (subst Apart (granted_line s c.rotate_left.new.self c.if-self-eq0.false c.rotate_left.ensures.after) s.once))
