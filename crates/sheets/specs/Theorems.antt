-- A plan and its sheet say the same: loading and saving undo each other. Assumes nothing.
use Rattle.std.specs.Prelude.{◌≡◌, ℕ, ◌<◌, ◌≤◌, List, length, Ok, slice_index}
use Rattle.tasks.specs.Platforms.{line_verdict, cores_verdict}
use Rattle.rules.specs.Rules.{EachATask, AllApart}
use Rattle.sheets.specs.Spelled.{Spelling, spelled}
use Rattle.sheets.specs.Written.{written}

-- each number is one that a byte can hold
abbrev pub EachAByte : List ℕ → Type 0
EachAByte bytes = (i : ℕ) → i < length bytes → slice_index bytes i < 256

-- what holds of every plan: its bus line and its cores are accepted,
pub record MayStand (plan : Spelling) : Type 0 where
  pub line : line_verdict plan.bottom plan.favours ≡ Ok tt
  pub platform : cores_verdict plan.cores plan.favours ≡ Ok tt
  -- it has 64 tasks at most, each on one of its cores, and any two go together
  pub few : length plan.rows ≤ 64
  pub each : EachATask plan.cores plan.rows
  pub apart : AllApart plan.rows

abbrev pub ALoadedSheetIsSavedAsTheSameBytes : Type 0
ALoadedSheetIsSavedAsTheSameBytes =
    (bytes : List ℕ) (plan : Spelling) → EachAByte bytes → spelled bytes ≡ Ok plan → written plan ≡ bytes

abbrev pub ASavedPlanLoadsAsItself : Type 0
ASavedPlanLoadsAsItself = (plan : Spelling) → MayStand plan → spelled (written plan) ≡ Ok plan
