-- A saved plan loads as itself: each record that is written is read as what it was written for.
use Rattle.std.proofs.Common.{◌≡◌, ℕ, zero, suc, ◌+◌, ◌-◌, ◌<◌, ◌≤◌, true, false, ◌&&◌, eqb, ltb, leb, List, [], ◌∷◌, ◌++◌, length, get_or, take, drop, is_some, Some, Ok, Result, sym, refl, ap, ◌∙◌, subst, append_assoc, append-nil, arith}
use Rattle.std.proofs.lemmas.List.{drop_at, drop-drop, take_at, length-append, length-drop, get_or_at, get_or_append_left}
use Rattle.std.proofs.lemmas.Bool.{le-leb, lt-leb, le-ltb, ne_eqb, ltb-true, and_parts}
use Rattle.std.proofs.lemmas.Bool.Decides.{nat_tests}
use Rattle.tasks.specs.declared.task.Row.{Row}
use Rattle.tasks.specs.Platforms.{line_verdict}
use Rattle.tasks.specs.Refusals.{Told}
use Rattle.tasks.specs.Rows.{no_row, bounded}
use Rattle.tasks.proofs.Verdicts.{bounded_is_accepted}
use Rattle.rules.proofs.Found.{place_none, clash_none}
use Rattle.rules.specs.Rules.{known, clash, clashes, add_verdict, with_row, is_task_of, apart}
use Rattle.sheets.specs.Bytes.{two, in_two}
use Rattle.sheets.specs.Records.{Part, head_of, present, record_at, place_after, start_of}
use Rattle.sheets.specs.Entries.{Held, platform, task, if_ok, held_in}
use Rattle.sheets.specs.Spelled.{Head, head_held, head_in, task_held, task_record, rows_from, with_rows, planned_by, headed, started}
use Rattle.sheets.specs.declared.placed.Placed.{Placed}
use Rattle.sheets.specs.Written.{platform_bytes, body_bytes, task_bytes, tasks_bytes, written}
use Rattle.sheets.specs.Theorems.{ASavedPlanLoadsAsItself}
use Rattle.sheets.proofs.Gathering.{admitted}
use Rattle.sheets.proofs.InBytes.{two_of, row_of}
use Rattle.sheets.proofs.Loaded.{SoundRows}

-- ---- a record

head_of_lem : (n kind : ℕ) (body more : List ℕ) (p : ℕ) → n ≡ 1 + length body
    → head_of (in_two n ++ (kind ∷ (body ++ more))) p ≡ Ok (record { place = p; kind = kind; body = body })
head_of_lem n kind body more p is =
    let rest : List ℕ = in_two n ++ (kind ∷ (body ++ more)) in
    let size : two rest 0 ≡ n = two_of n in
    let long : length (body ++ more) ≡ length body + length more = length-append body more in
    let all : length rest ≡ 3 + length (body ++ more) = omega arith in
    let taken : take (two rest 0 - 1) (drop 3 rest) ≡ body =
    ap (λ k. take k (body ++ more)) (omega (arith, size, is)) ∙ take_at body more (length body) refl in
    rw (le-ltb (length rest) 2 (omega (arith, all)), ne_eqb (two rest 0) 0 (omega (arith, size, is)), le-ltb (length rest) (2 + two rest 0) (omega (arith, size, all, long, is)), taken) refl

record_of : (sheet : List ℕ) (p n kind : ℕ) (body more : List ℕ) → n ≡ 1 + length body → drop p sheet ≡ in_two n ++ (kind ∷ (body ++ more))
    → record_at sheet p ≡ Ok (Some (record { place = p; kind = kind; body = body }))
record_of sheet p n kind body more is e =
    let some : length (in_two n ++ (kind ∷ (body ++ more))) ≡ 3 + length (body ++ more) = omega arith in
    let inside : p < length sheet = omega (arith, length-drop p sheet, ap length e, some) in
    rw (lt-leb (length sheet) p inside) (ap (λ r. present (head_of r p)) e ∙ ap present (head_of_lem n kind body more p is))

-- ---- a task, accepted as an add to those before it

apart_ids : (old new : Row) → apart old new ≡ true → old.id ≡ new.id → ⊥
apart_ids old new p q = grind (arith, nat_tests)

apart_ranks : (old new : Row) → apart old new ≡ true → clash new old ≡ false
apart_ranks old new p = grind (arith, nat_tests)

accepted : (cores : ℕ) (before : List Row) (row : Row) (rows : List Row) → SoundRows cores (before ++ (row ∷ rows)) → add_verdict cores before row ≡ Ok tt
accepted cores before row rows sound =
    let here = get_or_at before row rows no_row (length before) refl in
    let size : length (before ++ (row ∷ rows)) ≡ length before + suc (length rows) = length-append before (row ∷ rows) in
    let is : is_task_of cores row ≡ true = subst (λ r. is_task_of cores r ≡ true) here (sound.each (length before) (omega (arith, size))) in
    let parts = and_parts (ltb row.core cores) (bounded row) is in
    let pair : (u : ℕ) → u < length before → apart (get_or before u no_row) row ≡ true =
    λ u h. subst (λ r. apart r row ≡ true) (get_or_append_left before (row ∷ rows) no_row u h)
    (subst (λ r. apart (get_or (before ++ (row ∷ rows)) u no_row) r ≡ true) here (sound.apart u (length before) (h, omega (arith, size)))) in
    let absent : known row.id before ≡ false = ap is_some (place_none before row.id (λ u h. apart_ids (get_or before u no_row) row (pair u h))) in
    let alone : clashes row before ≡ false = clash_none before row (λ u h. apart_ranks (get_or before u no_row) row (pair u h)) in
    let few : length before < 64 = omega (arith, size, sound.few) in
    rw (lt-leb cores row.core (ltb-true row.core cores parts.0), absent, lt-leb 64 (length before) few, alone) (bounded_is_accepted row parts.1)

-- ---- the rows

task_of : (p : ℕ) (row : Row) → held_in (record { place = p; kind = 2; body = body_bytes row }) ≡ Ok (task row)
task_of p row = ap (λ r. Ok (task r)) (row_of row)

rows_forth : (more cores : ℕ) (sheet : List ℕ) (p : ℕ) (before rows : List Row) → length rows < more → drop p sheet ≡ tasks_bytes rows → SoundRows cores (before ++ rows)
    → rows_from more cores sheet p before ≡ Ok (before ++ rows)
unfolding rows_from
rows_forth zero cores sheet p before rows enough e sound = absurd (omega arith)
rows_forth (suc more) cores sheet p before [] enough e sound =
    let over : length sheet ≤ p = omega (arith, length-drop p sheet, ap length e) in
    rw (le-leb (length sheet) p over) (ap Ok (sym (append-nil before)))
rows_forth (suc more) cores sheet p before (row ∷ rows) enough e sound =
    let part : Part = record { place = p; kind = 2; body = body_bytes row } in
    let placed : Placed Row = record { place = p; what = row } in
    let found : record_at sheet p ≡ Ok (Some part) = record_of sheet p 25 2 (body_bytes row) (tasks_bytes rows) refl e in
    let taken : task_record (record_at sheet p) ≡ Ok (Some placed) = ap task_record found ∙ ap (task_held p) (task_of p row) in
    let next : place_after (record_at sheet p) p ≡ p + 27 = ap (λ x. place_after x p) found ∙ omega arith in
    let after : drop (p + 27) sheet ≡ tasks_bytes rows = sym (drop-drop 27 p sheet) ∙ ap (drop 27) e ∙ drop_at (task_bytes row) (tasks_bytes rows) 27 refl in
    let together : with_row before row ++ rows ≡ before ++ (row ∷ rows) = append_assoc before (row ∷ []) rows in
    admitted cores before (with_row before row) (task_record (record_at sheet p)) placed (rows_from more cores sheet (place_after (record_at sheet p) p)) taken (accepted cores before row rows sound) refl
    ∙ ap (λ q. rows_from more cores sheet q (with_row before row)) next
    ∙ rows_forth more cores sheet (p + 27) (with_row before row) rows (omega arith) after (subst (SoundRows cores) (sym together) sound)
    ∙ ap Ok together

tasks_long : (rows : List Row) → length rows ≤ length (tasks_bytes rows)
tasks_long [] = omega arith
tasks_long (row ∷ rows) = omega (arith, tasks_long rows, length-append (task_bytes row) (tasks_bytes rows))

-- ---- the plan

if_ok_lem : (v : Result (Unit {0}) Told) (held : Held) → v ≡ Ok tt → if_ok v held ≡ Ok held
if_ok_lem v held e = rw e refl

platform_of : (p cores bottom : ℕ) (favours : List ℕ) → line_verdict bottom favours ≡ Ok tt
    → held_in (record { place = p; kind = 1; body = cores ∷ bottom ∷ length favours ∷ favours }) ≡ Ok (platform cores bottom favours)
platform_of p cores bottom favours ok =
    let body : List ℕ = cores ∷ bottom ∷ length favours ∷ favours in
    let sized : (leb 3 (length body) && eqb (length body) (3 + length favours)) ≡ true = grind (arith, nat_tests) in
    rw sized (if_ok_lem (line_verdict bottom favours) (platform cores bottom favours) ok)

pub loaded_again : ASavedPlanLoadsAsItself
loaded_again plan may =
    let cores = plan.cores in let bottom = plan.bottom in let favours = plan.favours in let rows = plan.rows in
    let sheet = written plan in
    let body : List ℕ = cores ∷ bottom ∷ length favours ∷ favours in
    let part : Part = record { place = 1; kind = 1; body = body } in
    let head : Head = record { place = 1; cores = cores; bottom = bottom; favours = favours } in
    let front = platform_bytes cores bottom favours in
    let size : length sheet ≡ 1 + (length front + length (tasks_bytes rows)) = ap suc (length-append front (tasks_bytes rows)) ∙ omega arith in
    let start : start_of sheet ≡ Ok 1 = rw (ne_eqb (length sheet) 0 (omega (arith, size))) refl in
    let found : record_at sheet 1 ≡ Ok (Some part) = record_of sheet 1 (4 + length favours) 1 body (tasks_bytes rows) (omega arith) refl in
    let headed_by : head_in 1 (record_at sheet 1) ≡ Ok head = ap (head_in 1) found ∙ ap (head_held 1) (platform_of 1 cores bottom favours may.line) in
    let next = place_after (record_at sheet 1) 1 in
    let place : length (1 ∷ front) ≡ next = omega arith ∙ sym (ap (λ x. place_after x 1) found) in
    let after : drop next sheet ≡ tasks_bytes rows = drop_at (1 ∷ front) (tasks_bytes rows) next place in
    let sound : SoundRows cores rows = record { few = may.few; each = may.each; apart = may.apart } in
    let read : rows_from (suc (length sheet)) cores sheet next [] ≡ Ok rows =
    rows_forth (suc (length sheet)) cores sheet next [] rows (omega (arith, size, tasks_long rows)) after sound in
    ap (λ s. started s sheet) start
    ∙ ap (λ h. headed h sheet next) headed_by
    ∙ ap (λ v. planned_by head v sheet next) may.platform
    ∙ ap (with_rows head) read
