-- A table before and after an edit. Assumes nothing.
use Rattle.std.specs.Prelude.{◌≡◌, List, vec_items, vec_capacity, Result}
use Rattle.tasks.specs.declared.refusal.Refusal.{Refusal}
use Rattle.tasks.specs.declared.task.Row.{Row}
use Rattle.rules.specs.declared.table.Table.{Table}
use Rattle.rules.specs.Rules.{after}

-- an accepted edit puts these rows in place of the old, a refused one changes nothing, and the platform and the room stay
abbrev pub Edited : {X : Type 0} → Table → Result X Refusal → List Row → Table → Type 0
Edited old r rows new = (vec_items new.rows ≡ after r (vec_items old.rows) rows) × (new.platform ≡ old.platform) × (vec_capacity new.rows ≡ vec_capacity old.rows)
