use Rattle.std.proofs.Common.{◌≡◌, Some, None, Ok, vec_items, ◌∙◌, rules}
use Rattle.rules.specs.Rules.{add_verdict, with_row}
use Rattle.sheets.specs.Records.{due}
use Rattle.sheets.specs.Spelled.{task_record}
use Rattle.sheets.proofs.Gathering.{comes_to, after_a_task}
use Rattle.sheets.proofs.plan.load.gather.Goals as goal

pub returns-in_err-task-clause-value : goal.returns-in_err-task-clause-value
returns-in_err-task-clause-value c = let told = comes_to c.loop-task.invariant.0 c.in_err-task.ensures.value in search rules

pub loop-task-preserved : goal.loop-task-preserved
loop-task-preserved c =
    let before = c.loop-task in
    let found : Ok (Some c.in-Some.task) ≡ task_record (due before.reader) = search rules in
    let ok : c.add.result ≡ Ok tt = search rules in
    let added : vec_items c.add.new.self.rows ≡ with_row (vec_items before.table.rows) c.in-Some.task.what = search rules in
    let accepted : add_verdict before.table.platform.cores (vec_items before.table.rows) c.in-Some.task.what ≡ Ok tt = search rules in
    (rw (c.add.ensures.edited.1, c.later.ensures.moved, added) (after_a_task before.invariant.0 found accepted), c.add.ensures.edited.1 ∙ before.invariant.1, c.add.ensures.edited.2 ∙ before.invariant.2)

pub returns-in_err-map_err-clause-value : goal.returns-in_err-map_err-clause-value
returns-in_err-map_err-clause-value c =
    let found : Ok (Some c.in-Some.task) ≡ task_record (due c.loop-task.reader) = search rules in
    let told = rw (← c.add.ensures.answer) at (comes_to c.loop-task.invariant.0 found) in
    search rules

pub returns-clause-value : goal.returns-clause-value
returns-clause-value c =
    let found : Ok None ≡ task_record (due c.loop-task.reader) = search rules in
    comes_to c.loop-task.invariant.0 found
