-- When a row of plain numbers is a task, and the refusal where it is none. Assumes nothing.
use Rattle.std.specs.Prelude.{ℕ, ◌+◌, Bool, cond, ◌&&◌, ◌||◌, Ok, Err, Result, ◌==◌, nat_le}
use Rattle.tasks.specs.declared.task.Row.{Row}
use Rattle.tasks.specs.Refusals.{Told, refusal}

-- what a list of rows answers past its end
abbrev pub no_row : Row
no_row = record { id = 0; core = 0; rank = 0; spacing = 0; deadline = 0; a = 0; e = 0; r = 0 }

-- C, the ticks that a job takes at most when it never waits
abbrev pub cost : Row → ℕ
cost row = row.a + row.e + row.r

-- a + e + r ≤ D ≤ T ≤ 10,000,000
abbrev pub timely : Row → Bool
timely row = nat_le (cost row) row.deadline && nat_le row.deadline row.spacing && nat_le row.spacing 10000000

-- the bounds that every task keeps
abbrev pub bounded : Row → Bool
bounded row = nat_le 1 row.rank && nat_le 1 row.a && nat_le 1 row.e && nat_le 1 row.r && timely row

-- what a row earns by itself, wherever it is added: the topmost that applies
abbrev pub row_verdict : Row → Result (Unit {0}) Told
row_verdict row =
    cond (row.rank == 0) (Err (refusal 10))
    (cond (row.a == 0 || row.e == 0 || row.r == 0) (Err (refusal 11))
    (cond (timely row) (Ok tt) (Err (refusal 12))))
