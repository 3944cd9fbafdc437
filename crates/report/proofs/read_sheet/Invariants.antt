use Rattle.std.proofs.Common.{◌-◌, ◌≤◌, length}
use Rattle.report.proofs.read_sheet.Given as goal

abbrev pub invariant-loop-len : goal.invariant-loop-len
invariant-loop-len l = l.len ≤ length l.initial.sheet

abbrev pub decreases-loop-len : goal.decreases-loop-len
decreases-loop-len l = length l.initial.sheet - l.len
