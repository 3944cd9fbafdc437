-- What rules each refusal out, for callers who know that theirs cannot be refused. Assumes nothing.
use Rattle.std.proofs.Common.{◌≡◌, ℕ, ◌<◌, true, false, Some, None, arith}
use Rattle.tasks.specs.declared.refusal.Refusal.{Refusal}
use Rattle.bus.specs.Turns.{Meaning}
use Rattle.bus.specs.Means.{JoinRefused, GrantRefused, DoneRefused}

pub join_sure : (m : Meaning) (a : ℕ) (e : Refusal) → JoinRefused m a e → a < m.ports → m.waits a ≡ false → (m.serves ≡ Some a → ⊥) → ⊥
join_sure m a e r h w s = grind arith

pub grant_sure : (m : Meaning) (p : ℕ) (e : Refusal) → GrantRefused m e → m.waits p ≡ true → m.serves ≡ None → ⊥
grant_sure m p e r w s = grind arith

pub done_sure : (m : Meaning) (p : ℕ) (e : Refusal) → DoneRefused m e → m.serves ≡ Some p → ⊥
done_sure m p e r s = grind arith
