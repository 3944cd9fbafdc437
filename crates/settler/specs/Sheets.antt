-- What load leaves of a plan, and what save and print write of it. Assumes nothing.
use Rattle.std.specs.Prelude.{ℕ, List, Some, None, Ok, Err, Option, Result}
use Rattle.tasks.specs.declared.outcome.Outcome.{Outcome}
use Rattle.tasks.specs.declared.task.Row.{Row}
use Rattle.tasks.specs.Refusals.{Told, refusal}
use Rattle.sheets.specs.declared.plan.Fault.{Fault}
use Rattle.sheets.specs.Answers.{mistake}
use Rattle.sheets.specs.Spelled.{Spelling, Mistake}
use Rattle.writing.specs.Lent.{put_answer, fronted}
use Rattle.writing.specs.Lines.{printed}
use Rattle.settler.specs.Contents.{Content}

-- a sheet that spells a plan is accepted; any other is told with its fault
abbrev pub load_verdict : Result Spelling Mistake → Result (Unit {0}) Mistake
load_verdict (Ok plan) = Ok tt
load_verdict (Err fault) = Err fault

abbrev pub load_answer : Result (Unit {0}) Fault → Result (Unit {0}) Mistake
load_answer (Ok x) = Ok x
load_answer (Err fault) = Err (mistake fault)

-- the plan that a sheet spells stands in place of the one before, and nothing is settled for it; a faulty sheet changes nothing
abbrev pub loaded : Result Spelling Mistake → Content → Content
loaded (Ok plan) before = record { cores = plan.cores; bottom = plan.bottom; favours = plan.favours; rows = plan.rows; settled = None }
loaded (Err fault) before = before

-- what of a plan's content stands in its sheet
abbrev pub spelling : Content → Spelling
spelling plan = record { cores = plan.cores; bottom = plan.bottom; favours = plan.favours; rows = plan.rows }

-- print needs a settled plan, and judges the lent bytes last
abbrev pub printed_answer : List Row → Option (List Outcome) → List ℕ → Result ℕ Told
printed_answer rows None out = Err (refusal 13)
printed_answer rows (Some outcomes) out = put_answer (printed rows outcomes) out

abbrev pub print_answer : Content → List ℕ → Result ℕ Told
print_answer plan out = printed_answer plan.rows plan.settled out

abbrev pub printed_over : List Row → Option (List Outcome) → List ℕ → List ℕ
printed_over rows None out = out
printed_over rows (Some outcomes) out = fronted (printed rows outcomes) out

abbrev pub after_print : Content → List ℕ → List ℕ
after_print plan out = printed_over plan.rows plan.settled out
