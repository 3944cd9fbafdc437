-- What a text holds. Assumes nothing.
use Rattle.std.specs.Prelude.{ℕ, List}

-- its bytes, and for how many there is room: a vector's capacity
pub record Held : Type 0 where
  pub bytes : List ℕ
  pub room : ℕ
