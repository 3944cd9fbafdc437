-- What a refusal tells: the number of the table and the values that come with it. Contracts speak of these numbers. Assumes nothing.
use Rattle.std.specs.Prelude.{ℕ, List, [], ◌∷◌, ◌++◌, Some, None, Ok, Err, Option, Result, codes, decimal}
use Rattle.tasks.specs.declared.refusal.Refusal.{Refusal}
use Rattle.tasks.specs.declared.refusal.Refusal.TheVariants.{Short, Version, Kind, Place, Narrow, Core, Known, Unknown, Full, Rank, Length, Times, Edited, Ports, Twice, NoneWaits, Busy, Idle, Script, Memory}

pub data Told : Type 0 where
  -- a number of the table, with its values
  numbered : ℕ → List ℕ → Told
  -- want of memory, which the table does not number
  no_memory : Told

-- a number that comes with no value
abbrev pub refusal : ℕ → Told
refusal n = numbered n []

abbrev pub told : Refusal → Told
told Short = refusal 1
told Version = refusal 2
told Kind = refusal 3
told Place = refusal 4
told Narrow = refusal 5
told Core = refusal 6
told Known = refusal 7
told Unknown = refusal 8
told Full = refusal 9
told Rank = refusal 10
told Length = refusal 11
told Times = refusal 12
told Edited = refusal 13
told Ports = refusal 14
told Twice = refusal 15
told NoneWaits = refusal 16
told Busy = refusal 17
told Idle = refusal 18
told (Script row) = numbered 19 (row ∷ [])
told Memory = no_memory

abbrev pub number_of : Told → Option ℕ
number_of (numbered n values) = Some n
number_of no_memory = None

-- how it is printed
abbrev pub refusal_text : Told → List ℕ
refusal_text (numbered n values) = codes "refused " ++ decimal n
refusal_text no_memory = codes "no memory"

-- what a call answered, with the number in place of the refusal
abbrev pub answer : {X : Type 0} → Result X Refusal → Result X Told
answer (Ok x) = Ok x
answer (Err e) = Err (told e)
