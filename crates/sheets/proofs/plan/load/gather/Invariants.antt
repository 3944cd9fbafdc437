use Rattle.std.proofs.Common.{◌≡◌, suc, ◌-◌, length, vec_items, vec_capacity}
use Rattle.sheets.specs.Spelled.{rows_from}
use Rattle.sheets.proofs.Gathering.{GoesOn}
use Rattle.sheets.proofs.plan.load.gather.Given as goal

abbrev pub invariant-loop-task : goal.invariant-loop-task
invariant-loop-task l =
    GoesOn l.table.platform.cores l.reader.sheet.now l.reader.place (vec_items l.table.rows)
    (rows_from (suc (length l.initial.reader.sheet.now)) l.initial.table.platform.cores l.initial.reader.sheet.now l.initial.reader.place (vec_items l.initial.table.rows))
    × (l.table.platform ≡ l.initial.table.platform)
    × (vec_capacity l.table.rows ≡ vec_capacity l.initial.table.rows)

abbrev pub decreases-loop-task : goal.decreases-loop-task
decreases-loop-task l = length l.reader.sheet.now - l.reader.place
