-- Cells: one that is put, what a phase says of the times, and what a later cell keeps.
use Rattle.std.proofs.Common.{◌≡◌, ℕ, suc, ◌+◌, ◌<◌, ◌≤◌, ◌⊎◌, refl, arith}
use Rattle.std.proofs.lemmas.Bool.{eq-eqb, ne_eqb}
use Rattle.argument.specs.Logs.{Turn, A, R, joined, granted, ended}
use Rattle.bridge.specs.Scripts.{Script}
use Rattle.bridge.specs.Stages.{number}
use Rattle.bridge.specs.States.{Cell, put, job_of}

pub put_at : {X : Type 0} (f : ℕ → X) (k : ℕ) (x : X) → put f k x k ≡ x
put_at f k x = rw (eq-eqb k k refl) refl

pub put_off : {X : Type 0} (f : ℕ → X) (k : ℕ) (x : X) (j : ℕ) → (j ≡ k → ⊥) → put f k x j ≡ f j
put_off f k x j ne = rw (ne_eqb j k ne) refl

pub put_all : {X : Type 0} (Q : ℕ → X → Type 0) (f : ℕ → X) (k : ℕ) (x : X) → ((j : ℕ) → (j ≡ k → ⊥) → Q j (f j)) → Q k x → (j : ℕ) → Q j (put f k x j)
put_all Q f k x others here j = grind arith

-- the stage of a job, as a number
abbrev pub phase : Cell → ℕ
phase x = number x.stage

-- the phase in which a turn waits; it is granted in the next, and is over in the one after
abbrev pub at : Turn → ℕ
at A = 1
at R = 4

pub at_some : (x : Turn) → (at x ≡ 1) ⊎ (at x ≡ 4)
at_some x = grind arith

-- what the phase of a job says of its times; a, e and r are the longest
pub record Fits (now release a e r : ℕ) (x : Cell) : Type 0 where
  pub known : phase x ≤ 6
  pub starts : 1 ≤ phase x → release ≤ x.start
  pub begun : 1 ≤ phase x → x.start ≤ now
  pub waits_a : 2 ≤ phase x → x.start ≤ x.a_granted
  pub got_a : 2 ≤ phase x → x.a_granted ≤ now
  pub some_a : 2 ≤ phase x → x.a_granted < x.a_end
  pub most_a : 2 ≤ phase x → x.a_end ≤ x.a_granted + a
  pub some_e : 2 ≤ phase x → x.a_end < x.e_end
  pub most_e : 2 ≤ phase x → x.e_end ≤ x.a_end + e
  pub in_a : phase x ≡ 2 → now ≤ x.a_end
  pub done_a : 3 ≤ phase x → x.a_end ≤ now
  pub in_e : phase x ≡ 3 → now ≤ x.e_end
  pub done_e : 4 ≤ phase x → x.e_end ≤ now
  pub waits_r : 5 ≤ phase x → x.e_end ≤ x.r_granted
  pub got_r : 5 ≤ phase x → x.r_granted ≤ now
  pub some_r : 5 ≤ phase x → x.r_granted < x.end
  pub most_r : 5 ≤ phase x → x.end ≤ x.r_granted + r
  pub in_r : phase x ≡ 5 → now ≤ x.end
  pub done_r : 6 ≤ phase x → x.end ≤ now

-- y may come after x at the moment now
pub record Later (now : ℕ) (x y : Cell) : Type 0 where
  pub up : phase x ≤ phase y
  pub start : 1 ≤ phase x → y.start ≡ x.start
  pub a_granted : 2 ≤ phase x → y.a_granted ≡ x.a_granted
  pub a_end : 2 ≤ phase x → y.a_end ≡ x.a_end
  pub e_end : 2 ≤ phase x → y.e_end ≡ x.e_end
  pub r_granted : 5 ≤ phase x → y.r_granted ≡ x.r_granted
  pub end : 5 ≤ phase x → y.end ≡ x.end
  pub new_start : phase x < 1 → 1 ≤ phase y → now ≤ y.start
  pub new_a : phase x < 2 → 2 ≤ phase y → now ≤ y.a_granted
  pub new_join : phase x < 4 → 4 ≤ phase y → now ≤ y.e_end
  pub new_r : phase x < 5 → 5 ≤ phase y → now ≤ y.r_granted
  pub new_end : phase x < 6 → 6 ≤ phase y → now ≤ y.end

pub later_same : (now : ℕ) (x : Cell) → Later now x x
later_same now x = omega arith

module _ (Z : Script) (k : ℕ) {now : ℕ} {x y : Cell} (l : Later now x y) where
  pub joined_same : (t : Turn) → at t ≤ phase x → joined t (job_of Z k y) ≡ joined t (job_of Z k x)
  joined_same t h = grind arith

  pub joined_new : (t : Turn) → phase x < at t → at t ≤ phase y → now ≤ joined t (job_of Z k y)
  joined_new t h i = grind arith

  pub granted_same : (t : Turn) → at t < phase x → granted t (job_of Z k y) ≡ granted t (job_of Z k x)
  granted_same t h = grind arith

  pub granted_new : (t : Turn) → phase x ≤ at t → at t < phase y → now ≤ granted t (job_of Z k y)
  granted_new t h i = grind arith

  pub ended_same : (t : Turn) → at t < phase x → ended t (job_of Z k y) ≡ ended t (job_of Z k x)
  ended_same t h = grind arith

module _ (Z : Script) (k : ℕ) {now release a e r : ℕ} {x : Cell} (f : Fits now release a e r x) where
  pub granted_now : (t : Turn) → at t < phase x → granted t (job_of Z k x) ≤ now
  granted_now t h = grind arith

  pub ended_now : (t : Turn) → suc (at t) < phase x → ended t (job_of Z k x) ≤ now
  ended_now t h = grind arith

-- what is not due before a moment is as it was at that moment
pub fits_on : {now release a e r : ℕ} {x : Cell} → Fits now release a e r x → (then : ℕ) → now ≤ then
    → (phase x ≡ 2 → then ≤ x.a_end) → (phase x ≡ 3 → then ≤ x.e_end) → (phase x ≡ 5 → then ≤ x.end) → Fits then release a e r x
fits_on f then h i j k = omega arith
