-- What a record holds: a platform (kind 1) or a task (kind 2). Assumes nothing.
use Rattle.std.specs.Prelude.{ℕ, ◌+◌, Bool, cond, ◌&&◌, ◌||◌, List, length, drop, Ok, Err, Result, ◌==◌, nat_le, slice_index}
use Rattle.tasks.specs.declared.task.Row.{Row}
use Rattle.tasks.specs.Platforms.{bottom_number, favoured, line_verdict}
use Rattle.tasks.specs.Refusals.{Told, refusal}
use Rattle.sheets.specs.declared.entry.Entry.{Entry}
use Rattle.sheets.specs.declared.entry.Entry.TheVariants.{Platform, Task}
use Rattle.sheets.specs.declared.entry.Kind.{Kind}
use Rattle.sheets.specs.declared.entry.Kind.TheVariants.{Platform as PlatformKind, Task as TaskKind}
use Rattle.sheets.specs.Bytes.{two, four}
use Rattle.sheets.specs.Records.{Part, Spot}

pub data Held : Type 0 where
  -- cores, the bottom arbiter's number and the favoured ports
  platform : ℕ → ℕ → List ℕ → Held
  task : Row → Held

-- a task's body: id (2 bytes), core and rank (1 each), spacing, deadline, a, e, r (4 each)
abbrev pub row_in : List ℕ → Row
row_in body = record {
  id = two body 0;
  core = slice_index body 2;
  rank = slice_index body 3;
  spacing = four body 4;
  deadline = four body 8;
  a = four body 12;
  e = four body 16;
  r = four body 20;
}

abbrev pub if_ok : {X Y Z : Type 0} → Result X Y → Z → Result Z Y
if_ok (Ok x) z = Ok z
if_ok (Err y) z = Err y

-- a platform's body: cores, bottom arbiter, number of favours, each favoured port; one byte each
abbrev pub platform_in : List ℕ → Result Held Told
platform_in body =
    cond (nat_le 3 (length body) && length body == 3 + slice_index body 2)
    (if_ok (line_verdict (slice_index body 1) (drop 3 body)) (platform (slice_index body 0) (slice_index body 1) (drop 3 body)))
    (Err (refusal 3))

abbrev pub task_in : List ℕ → Result Held Told
task_in body = cond (length body == 24) (Ok (task (row_in body))) (Err (refusal 3))

abbrev pub held_in : Part → Result Held Told
held_in part = cond (part.kind == 1) (platform_in part.body) (cond (part.kind == 2) (task_in part.body) (Err (refusal 3)))

-- the same, with the place of the record that earns a refusal
abbrev pub placed_at : ℕ → Result Held Told → Result Held Spot
placed_at p (Ok held) = Ok held
placed_at p (Err told) = Err (record { told = told; place = p })

abbrev pub entry_in : Part → Result Held Spot
entry_in part = placed_at part.place (held_in part)

-- the numbers of the kinds that are known
abbrev pub kind_number : Kind → ℕ
kind_number PlatformKind = 1
kind_number TaskKind = 2

abbrev pub is_kind : ℕ → Bool
is_kind number = number == 1 || number == 2

-- what the code answers, in these words
abbrev pub held : Entry → Held
held (Platform cores line) = platform cores (bottom_number line.bottom) (favoured line.favours)
held (Task row) = task row
