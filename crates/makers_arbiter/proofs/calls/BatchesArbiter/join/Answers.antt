use Rattle.std.proofs.Common.{◌≡◌, ◌||◌, Some, sym, ap, ◌∙◌}
use Rattle.bus.specs.Masks.{has}
use Rattle.bus.proofs.Served.{not_served}
use Rattle.bus.proofs.Masks.{flag, has_or_other}
use Rattle.makers_arbiter.proofs.calls.BatchesArbiter.join.Goals as goal

pub invariant_of-self-clause-gone : goal.invariant_of-self-clause-gone
invariant_of-self-clause-gone c p g =
    let s = c.args.self.now in
    let a = c.args.a in
    let other : p ≡ a → ⊥ = λ q. not_served s.served a (sym c.if-is_served.ensures) (g ∙ ap Some q) in
    rw (flag a s.ports.count c.in_ok-check.ensures s.ports.few) (ap (λ v. has s.batch p || v) (has_or_other s.joined a p other) ∙ s.gone p g)
