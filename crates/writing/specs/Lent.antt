-- Bytes written to the front of lent ones. Assumes nothing.
use Rattle.std.specs.Prelude.{ℕ, cond, List, ◌++◌, length, drop, Ok, Err, Result, nat_lt}
use Rattle.tasks.specs.Refusals.{Told, refusal}

-- how many, or that too few were lent
abbrev pub put_answer : List ℕ → List ℕ → Result ℕ Told
put_answer bytes out = cond (nat_lt (length out) (length bytes)) (Err (refusal 5)) (Ok (length bytes))

-- what is beyond them stays, and all of it where too few were lent
abbrev pub fronted : List ℕ → List ℕ → List ℕ
fronted bytes out = cond (nat_lt (length out) (length bytes)) out (bytes ++ drop (length bytes) out)
