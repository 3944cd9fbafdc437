-- A row is accepted by itself exactly if it keeps the bounds of a task.
use Rattle.std.proofs.Common.{◌≡◌, ℕ, Bool, true, false, cond, ◌||◌, eqb, Ok, Err, Result, refl, arith}
use Rattle.std.proofs.lemmas.Bool.Decides.{nat_tests}
use Rattle.tasks.specs.declared.task.Row.{Row}
use Rattle.tasks.specs.Refusals.{Told, refusal}
use Rattle.tasks.specs.Rows.{row_verdict, bounded, timely}

-- a list of conditions that accepts has passed each of them
pub past : (b : Bool) (e : Told) (rest : Result (Unit {0}) Told) → cond b (Err e) rest ≡ Ok tt → (b ≡ false) × (rest ≡ Ok tt)
past true e rest h = absurd (let z : ◌≡◌ {A = ℕ} 0 1 = cc in omega arith)
past false e rest h = (refl, h)

pub through : (b : Bool) (e : Told) (rest : Result (Unit {0}) Told) → cond b rest (Err e) ≡ Ok tt → (b ≡ true) × (rest ≡ Ok tt)
through true e rest h = (refl, h)
through false e rest h = absurd (let z : ◌≡◌ {A = ℕ} 0 1 = cc in omega arith)

pub accepted_is_bounded : (row : Row) → row_verdict row ≡ Ok tt → bounded row ≡ true
accepted_is_bounded row h =
    let ranked = past (eqb row.rank 0) (refusal 10) _ h in
    let lengths = past (eqb row.a 0 || eqb row.e 0 || eqb row.r 0) (refusal 11) _ ranked.1 in
    let times = through (timely row) (refusal 12) (Ok tt) lengths.1 in
    let p = ranked.0 in let q = lengths.0 in let t = times.0 in grind (arith, nat_tests)

pub bounded_is_accepted : (row : Row) → bounded row ≡ true → row_verdict row ≡ Ok tt
bounded_is_accepted row h =
    let ranked : eqb row.rank 0 ≡ false = grind (arith, nat_tests) in
    let lengths : (eqb row.a 0 || eqb row.e 0 || eqb row.r 0) ≡ false = grind (arith, nat_tests) in
    let times : timely row ≡ true = grind (arith, nat_tests) in
    rw (ranked, lengths, times) refl
