use Rattle.std.proofs.Common.{◌≡◌, ◌*◌, ◌≤◌, length}
use Rattle.writing.specs.Lines.{first_lines}
use Rattle.writing.proofs.lines.printed_text.Given as goal

abbrev pub invariant-loop-row : goal.invariant-loop-row
invariant-loop-row g l = (l.text.bytes ≡ first_lines l.rows l.outcomes (length l.yielded)) × (length l.text.bytes ≤ 70 * length l.yielded) × (l.initial.text.room ≤ l.text.room)
