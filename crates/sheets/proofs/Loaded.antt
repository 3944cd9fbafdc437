-- A plan that a sheet spells is one that a plan may hold: its platform fits, and each row was accepted as an add to those before it.
use Rattle.std.proofs.Common.{◌≡◌, ℕ, zero, suc, ◌≤◌, true, List, [], length, Some, None, Ok, Err, Option, Result, sym, refl, subst, arith}
use Rattle.std.proofs.lemmas.List.{length_push}
use Rattle.tasks.specs.declared.task.Row.{Row}
use Rattle.tasks.specs.Platforms.{cores_fit, cores_verdict}
use Rattle.tasks.specs.Refusals.{Told, refusal}
use Rattle.rules.specs.Rules.{add_verdict, with_row, EachATask, AllApart}
use Rattle.tasks.proofs.Verdicts.{through}
use Rattle.rules.proofs.Kept.{addable, added_each, added_apart}
use Rattle.sheets.specs.Records.{Spot, record_at, place_after, start_of}
use Rattle.sheets.specs.declared.placed.Placed.{Placed}
use Rattle.sheets.specs.Spelled.{Head, Mistake, Spelling, task_record, judged, grown, rows_from, with_rows, planned_by, headed, head_in, started, spelled}

pub record SoundRows (cores : ℕ) (rows : List Row) : Type 0 where
  pub few : length rows ≤ 64
  pub each : EachATask cores rows
  pub apart : AllApart rows

none_sound : (cores : ℕ) → SoundRows cores []
none_sound cores = record { few = omega arith; each = λ u h. absurd (omega arith); apart = λ u v h. absurd (omega (arith, h.1)) }

one_sound : (cores : ℕ) (rows : List Row) (row : Row) → SoundRows cores rows → add_verdict cores rows row ≡ Ok tt → SoundRows cores (with_row rows row)
one_sound cores rows row sound ok =
    let add = addable cores rows row ok in
    record {
      few = omega (arith, add.room, length_push rows row);
      each = added_each cores rows row sound.each add;
      apart = added_apart cores rows row sound.apart add;
    }

judged_sound : (cores : ℕ) (rows : List Row) (row : Row) (p : ℕ) (v : Result (Unit {0}) Told) (rest : Result (List Row) Mistake) (all : List Row)
    → v ≡ add_verdict cores rows row → SoundRows cores rows → (SoundRows cores (with_row rows row) → rest ≡ Ok all → SoundRows cores all) → judged v p rest ≡ Ok all → SoundRows cores all
judged_sound cores rows row p (Ok x) rest all is sound go e = go (one_sound cores rows row sound (sym is)) e
judged_sound cores rows row p (Err told) rest all is sound go e = absurd (let z : ◌≡◌ {A = ℕ} 0 1 = cc in omega arith)

grown_sound : (cores : ℕ) (rows : List Row) (x : Result (Option (Placed Row)) Spot) (rest : List Row → Result (List Row) Mistake) (all : List Row) → SoundRows cores rows
    → ((more : List Row) → SoundRows cores more → rest more ≡ Ok all → SoundRows cores all) → grown cores rows x rest ≡ Ok all → SoundRows cores all
grown_sound cores rows (Ok None) rest all sound go e = let is : rows ≡ all = cc in rw (sym is) sound
grown_sound cores rows (Ok (Some placed)) rest all sound go e =
    judged_sound cores rows placed.what placed.place (add_verdict cores rows placed.what) (rest (with_row rows placed.what)) all refl sound (go (with_row rows placed.what)) e
grown_sound cores rows (Err spot) rest all sound go e = absurd (let z : ◌≡◌ {A = ℕ} 0 1 = cc in omega arith)

rows_sound : (more cores : ℕ) (sheet : List ℕ) (p : ℕ) (rows all : List Row) → SoundRows cores rows → rows_from more cores sheet p rows ≡ Ok all → SoundRows cores all
unfolding rows_from
rows_sound zero cores sheet p rows all sound e = let is : rows ≡ all = cc in rw (sym is) sound
rows_sound (suc more) cores sheet p rows all sound e =
    grown_sound cores rows (task_record (record_at sheet p)) (rows_from more cores sheet (place_after (record_at sheet p) p)) all sound
    (λ later ok f. rows_sound more cores sheet (place_after (record_at sheet p) p) later all ok f) e

-- what every spelled plan keeps
pub record SoundPlan (plan : Spelling) : Type 0 where
  pub fits : cores_fit plan.cores plan.favours ≡ true
  pub rows : SoundRows plan.cores plan.rows

rowed : (head : Head) (x : Result (List Row) Mistake) (plan : Spelling) → cores_fit head.cores head.favours ≡ true
    → ((all : List Row) → x ≡ Ok all → SoundRows head.cores all) → with_rows head x ≡ Ok plan → SoundPlan plan
rowed head (Ok rows) plan fit sound e =
    let is : record { cores = head.cores; bottom = head.bottom; favours = head.favours; rows = rows } ≡ plan = cc in
    subst SoundPlan is (record { fits = fit; rows = sound rows refl })
rowed head (Err fault) plan fit sound e = absurd (let z : ◌≡◌ {A = ℕ} 0 1 = cc in omega arith)

planned_sound : (head : Head) (v : Result (Unit {0}) Told) (sheet : List ℕ) (p : ℕ) (plan : Spelling) → v ≡ cores_verdict head.cores head.favours
    → planned_by head v sheet p ≡ Ok plan → SoundPlan plan
planned_sound head (Ok x) sheet p plan is e = rowed head (rows_from (suc (length sheet)) head.cores sheet p []) plan
    (through (cores_fit head.cores head.favours) (refusal 6) (Ok tt) (sym is)).0 (λ all f. rows_sound (suc (length sheet)) head.cores sheet p [] all (none_sound head.cores) f) e
planned_sound head (Err told) sheet p plan is e = absurd (let z : ◌≡◌ {A = ℕ} 0 1 = cc in omega arith)

headed_sound : (x : Result Head Spot) (sheet : List ℕ) (p : ℕ) (plan : Spelling) → headed x sheet p ≡ Ok plan → SoundPlan plan
headed_sound (Ok head) sheet p plan e = planned_sound head (cores_verdict head.cores head.favours) sheet p plan refl e
headed_sound (Err spot) sheet p plan e = absurd (let z : ◌≡◌ {A = ℕ} 0 1 = cc in omega arith)

started_sound : (x : Result ℕ Spot) (sheet : List ℕ) (plan : Spelling) → started x sheet ≡ Ok plan → SoundPlan plan
started_sound (Ok p) sheet plan e = headed_sound (head_in p (record_at sheet p)) sheet (place_after (record_at sheet p) p) plan e
started_sound (Err spot) sheet plan e = absurd (let z : ◌≡◌ {A = ℕ} 0 1 = cc in omega arith)

pub spelled_sound : (sheet : List ℕ) (plan : Spelling) → spelled sheet ≡ Ok plan → SoundPlan plan
spelled_sound sheet plan e = started_sound (start_of sheet) sheet plan e
