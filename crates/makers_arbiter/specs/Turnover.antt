-- Two masks of waiting ports: the batch that is being served, and those that joined since it was opened. Assumes nothing.
use Rattle.std.specs.Prelude.{ℕ, Bool, cond, ◌||◌, ◌==◌}
use Rattle.bus.specs.Masks.{has}

-- port p waits in the one or the other
abbrev pub in_either : ℕ → ℕ → ℕ → Bool
in_either batch joined p = has batch p || has joined p

-- the batch that a grant serves from: when the batch is empty, those that joined become the batch
abbrev pub opened : ℕ → ℕ → ℕ
opened batch joined = cond (batch == 0) joined batch

-- those who stay behind
abbrev pub behind : ℕ → ℕ → ℕ
behind batch joined = cond (batch == 0) 0 joined
