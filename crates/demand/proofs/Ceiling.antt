-- Division rounded up, by the library's method and by the definition.
use Rattle.std.proofs.Common.{◌≡◌, ℕ, ◌+◌, ◌-◌, ◌<◌, ◌≤◌, arith}
use Rattle.std.specs.Int.{div_ceil}
use Rattle.std.proofs.Math.Nat.{lt_of_mul-lt-mul_right, div-mul-le_self, lt-div-mul-add}
use Rattle.std.proofs.lemmas.Grind.{div_ceil_times}
use Rattle.argument.specs.Sums.{ceil}

pub ceil_is : (w t : ℕ) → 1 ≤ t → div_ceil w t ≡ ceil w t
ceil_is w t some =
    let times = div_ceil_times w t (omega arith) in
    let least = div-mul-le_self (w + (t - 1)) t in
    let most = lt-div-mul-add {a = w + (t - 1)} {b = t} (omega arith) in
    let below : div_ceil w t < ceil w t + 1 = lt_of_mul-lt-mul_right t (omega arith) in
    let above : ceil w t < div_ceil w t + 1 = lt_of_mul-lt-mul_right t (omega arith) in
    omega arith
