use Rattle.std.proofs.Common.{◌≡◌, ◌+◌, ◌*◌, ◌≤◌, ◌++◌, length, drop}
use Rattle.sheets.specs.Written.{tasks_bytes}
use Rattle.writing.proofs.sheet.sheet_text.Given as goal

abbrev pub invariant-loop-row : goal.invariant-loop-row
invariant-loop-row g l = (l.text.bytes ++ tasks_bytes (drop l.row-index l.rows) ≡ l.initial.text.bytes ++ tasks_bytes l.rows) × (length l.text.bytes ≤ 9 + 27 * l.row-index) × (l.initial.text.room ≤ l.text.room)
