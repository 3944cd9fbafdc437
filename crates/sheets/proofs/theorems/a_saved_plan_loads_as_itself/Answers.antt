use Rattle.sheets.proofs.LoadedAgain.{loaded_again}
use Rattle.sheets.proofs.theorems.a_saved_plan_loads_as_itself.Goals as goal

pub returns : goal.returns
returns c = loaded_again
