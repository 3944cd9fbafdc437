-- What the code answers, in the words of the definitions. Assumes nothing.
use Rattle.std.specs.Prelude.{List, vec_items, Ok, Err, Option, Result}
use Rattle.tasks.specs.declared.refusal.Refusal.{Refusal}
use Rattle.tasks.specs.declared.task.Row.{Row}
use Rattle.tasks.specs.Platforms.{bottom_number, favoured}
use Rattle.tasks.specs.Refusals.{told}
use Rattle.rules.specs.declared.table.Table.{Table}
use Rattle.sheets.specs.declared.order.Start.{Start}
use Rattle.sheets.specs.declared.placed.Placed.{Placed}
use Rattle.sheets.specs.declared.plan.Fault.{Fault}
use Rattle.sheets.specs.Records.{Spot, spot}
use Rattle.sheets.specs.Spelled.{Head, Mistake, Spelling}

abbrev pub start_seen : Result (Placed Start) (Placed Refusal) → Result Head Spot
start_seen (Ok start) =
    Ok (record { place = start.place; cores = start.what.cores; bottom = bottom_number start.what.line.bottom; favours = favoured start.what.line.favours })
start_seen (Err bad) = Err (spot bad)

abbrev pub listed_seen : Result (Option (Placed Row)) (Placed Refusal) → Result (Option (Placed Row)) Spot
listed_seen (Ok listed) = Ok listed
listed_seen (Err bad) = Err (spot bad)

abbrev pub mistake : Fault → Mistake
mistake fault = record { told = told fault.refusal; layer = fault.layer; place = fault.place }

abbrev pub gathered : Result (Unit {0}) Fault → List Row → Result (List Row) Mistake
gathered (Ok x) rows = Ok rows
gathered (Err fault) rows = Err (mistake fault)

-- the plan that a table holds, where the sheet was loaded into it
abbrev pub plan_seen : Result (Unit {0}) Fault → Table → Result Spelling Mistake
plan_seen (Ok x) table = Ok (record {
  cores = table.platform.cores;
  bottom = bottom_number table.platform.line.bottom;
  favours = favoured table.platform.line.favours;
  rows = vec_items table.rows;
})
plan_seen (Err fault) table = Err (mistake fault)
