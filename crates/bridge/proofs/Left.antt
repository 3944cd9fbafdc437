-- How many ticks a job is still on the way, waits for the bus not counted.
use Rattle.std.proofs.Common.{◌≡◌, ℕ, ◌+◌, ◌-◌, cond, eqb, leb, refl}
use Rattle.bridge.specs.Scripts.{Release}
use Rattle.bridge.specs.States.{Cell}
use Rattle.bridge.proofs.Cells.{phase}

abbrev pub left : ℕ → Release → Cell → ℕ
left now z x =
    cond (eqb (phase x) 0) ((z.release - now) + (z.a + z.e + z.r))
    (cond (eqb (phase x) 1) (z.a + z.e + z.r)
    (cond (leb (phase x) 3) ((x.e_end - now) + z.r)
    (cond (eqb (phase x) 4) z.r
    (cond (eqb (phase x) 5) (x.end - now) 0))))

pub left_0 : (now : ℕ) (z : Release) (x : Cell) → phase x ≡ 0 → left now z x ≡ (z.release - now) + (z.a + z.e + z.r)
left_0 now z x e = rw e refl
