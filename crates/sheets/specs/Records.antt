-- What stands at a place of a sheet: two length bytes, the kind byte and the body; the length counts kind and body. Assumes nothing.
use Rattle.std.specs.Prelude.{ℕ, ◌+◌, ◌-◌, cond, List, length, take, drop, Some, None, Ok, Err, Option, Result, ◌==◌, nat_le, nat_lt, slice_index}
use Rattle.tasks.specs.declared.refusal.Refusal.{Refusal}
use Rattle.tasks.specs.Refusals.{Told, told, refusal}
use Rattle.sheets.specs.declared.placed.Placed.{Placed}
use Rattle.sheets.specs.declared.reader.Reader.{Reader}
use Rattle.sheets.specs.declared.reader.Record.{Record}
use Rattle.sheets.specs.Bytes.{two}

-- a record, by its place, its kind and its body
pub record Part : Type 0 where
  pub place : ℕ
  pub kind : ℕ
  pub body : List ℕ

-- a refusal, and the place of the record that earns it
pub record Spot : Type 0 where
  pub told : Told
  pub place : ℕ

abbrev pub at : ℕ → ℕ → Spot
at number place = record { told = refusal number; place = place }

-- the record at the front of what is left of a sheet, from its place on
abbrev pub head_of : List ℕ → ℕ → Result Part Spot
head_of rest p =
    cond (nat_lt (length rest) 2) (Err (at 1 p))
    (cond (two rest 0 == 0) (Err (at 3 p))
    (cond (nat_lt (length rest) (2 + two rest 0)) (Err (at 1 p))
    (Ok (record { place = p; kind = slice_index rest 2; body = take (two rest 0 - 1) (drop 3 rest) }))))

abbrev pub present : {X Y : Type 0} → Result X Y → Result (Option X) Y
present (Ok x) = Ok (Some x)
present (Err y) = Err y

-- the record at a place, if the sheet goes on there
abbrev pub record_at : List ℕ → ℕ → Result (Option Part) Spot
record_at sheet p = cond (nat_le (length sheet) p) (Ok None) (present (head_of (drop p sheet) p))

-- where a reader stands after it: past the record, or where it was
abbrev pub place_after : Result (Option Part) Spot → ℕ → ℕ
place_after (Ok None) p = p
place_after (Ok (Some part)) p = p + 3 + length part.body
place_after (Err spot) p = p

-- the first record is due at byte 1, after a version byte 1
abbrev pub start_of : List ℕ → Result ℕ Spot
start_of sheet = cond (length sheet == 0) (Err (at 1 0)) (cond (slice_index sheet 0 == 1) (Ok 1) (Err (at 2 0)))

-- the record that is due where a reader stands, and the reader past it
abbrev pub due : Reader → Result (Option Part) Spot
due reader = record_at reader.sheet.now reader.place

abbrev pub past : Reader → Reader
past reader = record { sheet = reader.sheet; place = place_after (due reader) reader.place }

-- what the code answers, in these words
abbrev pub spot : Placed Refusal → Spot
spot bad = record { told = told bad.what; place = bad.place }

abbrev pub part : Record → Part
part found = record { place = found.place; kind = found.kind; body = found.body.now }

abbrev pub shown : Result Record (Placed Refusal) → Result Part Spot
shown (Ok found) = Ok (part found)
shown (Err bad) = Err (spot bad)

abbrev pub seen : Result (Option Record) (Placed Refusal) → Result (Option Part) Spot
seen (Ok None) = Ok None
seen (Ok (Some found)) = Ok (Some (part found))
seen (Err bad) = Err (spot bad)
