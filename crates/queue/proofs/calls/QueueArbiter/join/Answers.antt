use Rattle.std.proofs.Common.{◌≡◌, ℕ, Some, sym, ap, ◌∙◌, subst, arith, length-set}
use Rattle.bus.proofs.Served.{not_served}
use Rattle.queue.specs.Lines.{among, Apart}
use Rattle.queue.specs.Account.{line}
use Rattle.queue.specs.Line.{among_other}
use Rattle.queue.proofs.Steps.{room, joined_below, joined_line, joined_apart}
use Rattle.queue.proofs.calls.QueueArbiter.join.Goals as goal

pub invariant_of-self-clause-fits : goal.invariant_of-self-clause-fits
invariant_of-self-clause-fits c = omega (arith, length-set {A = ℕ}, room c.args.self.now c.args.a c.in_ok-check.ensures (sym c.if-has.ensures))

pub invariant_of-self-clause-below : goal.invariant_of-self-clause-below
invariant_of-self-clause-below c p e =
    let s = c.args.self.now in
    let h = c.in_ok-check.ensures in
    joined_below s c.args.a h p (ap (among p) (sym (joined_line s c.args.a c.from.result c.from.ensures (omega (arith, room s c.args.a h (sym c.if-has.ensures))))) ∙ e)

pub invariant_of-self-clause-once : goal.invariant_of-self-clause-once
invariant_of-self-clause-once c =
    let s = c.args.self.now in
    let f = sym c.if-has.ensures in
    subst Apart (sym (joined_line s c.args.a c.from.result c.from.ensures (omega (arith, room s c.args.a c.in_ok-check.ensures f)))) (joined_apart s c.args.a f)

pub invariant_of-self-clause-gone : goal.invariant_of-self-clause-gone
invariant_of-self-clause-gone c p g =
    let s = c.args.self.now in
    let other : p ≡ c.args.a → ⊥ = λ q. not_served s.served c.args.a (sym c.if-is_served.ensures) (g ∙ ap Some q) in
    ap (among p) (joined_line s c.args.a c.from.result c.from.ensures (omega (arith, room s c.args.a c.in_ok-check.ensures (sym c.if-has.ensures)))) ∙ among_other (line s) c.args.a p other ∙ s.gone p g
