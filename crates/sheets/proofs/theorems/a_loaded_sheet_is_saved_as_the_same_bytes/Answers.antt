use Rattle.sheets.proofs.SavedAgain.{saved_again}
use Rattle.sheets.proofs.theorems.a_loaded_sheet_is_saved_as_the_same_bytes.Goals as goal

pub returns : goal.returns
returns c = saved_again
