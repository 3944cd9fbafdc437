-- What a limit lets through.
use Rattle.std.proofs.Common.{◌≡◌, ℕ, ◌≤◌, arith}
use Rattle.tasks.specs.Limits.{Within, capped, Limit}

pub within_none : (limit : Limit) (x : ℕ) → x ≡ 0 → Within limit x
within_none limit x e = grind arith

pub within_less : (limit : Limit) (x y : ℕ) → Within limit y → x ≤ y → Within limit x
within_less limit x y h l = grind arith

pub within_capped : (limit : Limit) (x y : ℕ) → Within limit x → x ≤ y → x ≤ capped limit y
within_capped limit x y h l = grind arith
