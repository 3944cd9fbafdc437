-- A loaded sheet is saved as the same bytes: each record that was read is written as the bytes that it was read from.
use Rattle.std.proofs.Common.{◌≡◌, ℕ, zero, suc, ◌+◌, ◌-◌, ◌<◌, ◌≤◌, Bool, true, false, cond, eqb, leb, List, [], ◌∷◌, ◌++◌, length, get_or, take, drop, None, Ok, Err, Result, sym, refl, ap, ◌∙◌, subst, inl, inr, append_assoc, append-nil, arith}
use native.Mathlib.Nat.{min-le_left}
use Rattle.std.proofs.lemmas.List.{drop_more, drop_all, drop-drop, take-append-drop, length-take-le, length-take, length-drop, get_or-drop, get_or-take, get_or_past}
use Rattle.std.proofs.lemmas.Bool.Decides.{nat_tests}
use Rattle.std.proofs.lemmas.Bool.{cases_Bool, cases_lt, leb-true, leb-false, eqb-true, eqb-false}
use Rattle.tasks.specs.declared.task.Row.{Row}
use Rattle.tasks.specs.Platforms.{cores_verdict}
use Rattle.tasks.specs.Refusals.{Told}
use Rattle.rules.specs.Rules.{add_verdict, with_row}
use Rattle.sheets.specs.Bytes.{two, in_two}
use Rattle.sheets.specs.Records.{Part, Spot, at, head_of, present, record_at, place_after}
use Rattle.sheets.specs.Entries.{Held, platform, task, row_in, held_in}
use Rattle.sheets.specs.Spelled.{Head, Mistake, Spelling, head_held, head_in, task_held, task_record, judged, grown, rows_from, planned_by, headed, started}
use Rattle.sheets.specs.Written.{platform_bytes, task_bytes, tasks_bytes}
use Rattle.sheets.specs.Theorems.{EachAByte, ALoadedSheetIsSavedAsTheSameBytes}
use Rattle.sheets.proofs.InBytes.{two_back, body_back}

-- ---- bytes, at every place

abbrev Below : List ℕ → Type 0
Below xs = (k : ℕ) → get_or xs k 0 < 256

everywhere : (xs : List ℕ) → EachAByte xs → Below xs
everywhere xs bytes k = elim (cases_lt k (length xs)) [
  | inl inside ↦ bytes k inside
  | inr past ↦ omega (arith, get_or_past xs k 0 past)
]

below_drop : (n : ℕ) (xs : List ℕ) → Below xs → Below (drop n xs)
below_drop n xs below k = omega (arith, get_or-drop n xs k 0, below (n + k))

shorter : (n : ℕ) (xs : List ℕ) (k : ℕ) → n ≤ k → length (take n xs) ≤ k
shorter n xs k h = omega (arith, length-take n xs, min-le_left n (length xs))

below_take : (n : ℕ) (xs : List ℕ) → Below xs → Below (take n xs)
below_take n xs below k = elim (cases_lt k n) [
  | inl inside ↦ omega (arith, get_or-take n xs k 0 inside, below k)
  | inr past ↦ omega (arith, get_or_past (take n xs) k 0 (shorter n xs k past))
]

-- ---- a record

-- the bytes of a record, and those after it
abbrev part_bytes : Part → List ℕ → List ℕ
part_bytes part more = in_two (1 + length part.body) ++ (part.kind ∷ (part.body ++ more))

-- what was read of the front of some bytes
record FrontOf (rest : List ℕ) (p : ℕ) (part : Part) : Type 0 where
  pub place : part.place ≡ p
  pub below : Below part.body
  pub bytes : part_bytes part (drop (3 + length part.body) rest) ≡ rest

head_back : (rest : List ℕ) (p : ℕ) (part : Part) → Below rest → head_of rest p ≡ Ok part → FrontOf rest p part
head_back rest p part below e =
    let n = two rest 0 in
    let found : Part = record { place = p; kind = get_or rest 2 0; body = take (n - 1) (drop 3 rest) } in
    let some : 1 ≤ n = grind (arith, nat_tests) in
    let room : 2 + n ≤ length rest = grind (arith, nat_tests) in
    let is : found ≡ part = grind (arith, nat_tests) in
    let long : length (take (n - 1) (drop 3 rest)) ≡ n - 1 = length-take-le (n - 1) (drop 3 rest) (omega (arith, length-drop 3 rest, some)) in
    let size : 1 + length (take (n - 1) (drop 3 rest)) ≡ n = omega (arith, some) in
    let after : drop (3 + length (take (n - 1) (drop 3 rest))) rest ≡ drop (n - 1) (drop 3 rest) =
    ap (λ k. drop (3 + k) rest) long ∙ sym (drop-drop (n - 1) 3 rest) in
    let all : part_bytes found (drop (3 + length (take (n - 1) (drop 3 rest))) rest) ≡ rest =
    ap (λ k. in_two k ++ (get_or rest 2 0 ∷ (take (n - 1) (drop 3 rest) ++ drop (3 + length (take (n - 1) (drop 3 rest))) rest))) size
    ∙ ap (λ t. in_two n ++ (get_or rest 2 0 ∷ (take (n - 1) (drop 3 rest) ++ t))) after
    ∙ ap (λ t. in_two n ++ (get_or rest 2 0 ∷ t)) (take-append-drop (n - 1) (drop 3 rest))
    ∙ ap (λ t. in_two n ++ t) (sym (drop_more rest 2 0 (omega (arith, some))))
    ∙ two_back rest below 0 (omega arith) in
    subst (FrontOf rest p) is (record { place = refl; below = below_take (n - 1) (drop 3 rest) (below_drop 3 rest below); bytes = all })

-- ---- a task

task_held_lem : (part : Part) (row : Row) → held_in part ≡ Ok (task row) → (part.kind ≡ 2) × (length part.body ≡ 24) × (row_in part.body ≡ row)
task_held_lem part row e =
    let kind : part.kind ≡ 2 = grind (arith, nat_tests) in
    let size : length part.body ≡ 24 = grind (arith, nat_tests) in
    let is : row_in part.body ≡ row = grind (arith, nat_tests) in
    (kind, size, is)

-- the bytes of a task's record are those that it is written as
task_bytes_lem : (part : Part) (row : Row) (more : List ℕ) → Below part.body → held_in part ≡ Ok (task row) → task_bytes row ++ more ≡ part_bytes part more
task_bytes_lem part row more below e =
    let is = task_held_lem part row e in
    let body : task_bytes row ≡ 0 ∷ 25 ∷ 2 ∷ part.body = ap task_bytes (sym is.2) ∙ ap (λ t. 0 ∷ 25 ∷ 2 ∷ t) (body_back part.body below is.1) in
    ap (λ t. t ++ more) body
    ∙ ap (λ n. in_two (1 + n) ++ (2 ∷ (part.body ++ more))) (sym is.1)
    ∙ ap (λ k. in_two (1 + length part.body) ++ (k ∷ (part.body ++ more))) (sym is.0)

-- ---- the rows

judged_back : (v : Result (Unit {0}) Told) (p : ℕ) (rest : Result (List Row) Mistake) (all : List Row) → judged v p rest ≡ Ok all → rest ≡ Ok all
judged_back (Ok x) p rest all e = e
judged_back (Err told) p rest all e = absurd cc

held_back : (cores : ℕ) (rows all : List Row) (p : ℕ) (x : Result Held Told) (rest : List Row → Result (List Row) Mistake) → grown cores rows (task_held p x) rest ≡ Ok all
    → (row : Row) × (x ≡ Ok (task row)) × (rest (with_row rows row) ≡ Ok all)
held_back cores rows all p (Ok (platform c b f)) rest e = absurd cc
held_back cores rows all p (Ok (task row)) rest e = (row, refl, judged_back (add_verdict cores rows row) p (rest (with_row rows row)) all e)
held_back cores rows all p (Err told) rest e = absurd cc

-- a record more, or none
record TaskThere (p : ℕ) (h : Result Part Spot) (rows all : List Row) (next : ℕ → List Row → Result (List Row) Mistake) : Type 0 where
  pub part : Part
  pub row : Row
  pub found : h ≡ Ok part
  pub holds : held_in part ≡ Ok (task row)
  pub rest : next (p + 3 + length part.body) (with_row rows row) ≡ Ok all

there_back : (cores p : ℕ) (rows all : List Row) (h : Result Part Spot) (next : ℕ → List Row → Result (List Row) Mistake)
    → grown cores rows (task_record (present h)) (next (place_after (present h) p)) ≡ Ok all → TaskThere p h rows all next
there_back cores p rows all (Ok part) next e =
    let back = held_back cores rows all part.place (held_in part) (next (p + 3 + length part.body)) e in
    record { part = part; row = back.0; found = refl; holds = back.1; rest = back.2 }
there_back cores p rows all (Err spot) next e = absurd cc

some_back : (cores : ℕ) (sheet : List ℕ) (p : ℕ) (rows all : List Row) (next : ℕ → List Row → Result (List Row) Mistake) → leb (length sheet) p ≡ false
    → grown cores rows (task_record (record_at sheet p)) (next (place_after (record_at sheet p) p)) ≡ Ok all → TaskThere p (head_of (drop p sheet) p) rows all next
some_back cores sheet p rows all next inside e = there_back cores p rows all (head_of (drop p sheet) p) next (rw inside at e)

-- the rows that were read from a place on are written as the bytes from there
record ReadFrom (sheet : List ℕ) (p : ℕ) (rows all : List Row) : Type 0 where
  pub read : List Row
  pub rows_are : all ≡ rows ++ read
  pub bytes_are : tasks_bytes read ≡ drop p sheet

rows_back : (more cores : ℕ) (sheet : List ℕ) (p : ℕ) (rows all : List Row) → Below sheet → length sheet - p < more → rows_from more cores sheet p rows ≡ Ok all → ReadFrom sheet p rows all
unfolding rows_from
rows_back zero cores sheet p rows all below enough e = absurd (omega arith)
rows_back (suc more) cores sheet p rows all below enough e = elim (cases_Bool (leb (length sheet) p)) [
  | inl past ↦ record {
    read = [];
    rows_are = let done = rw past at e in let same : all ≡ rows = cc in same ∙ sym (append-nil rows);
    bytes_are = sym (drop_all p sheet (leb-true (length sheet) p past));
  }
  | inr inside ↦ (let there = some_back cores sheet p rows all (rows_from more cores sheet) inside e in
      let part = there.part in let row = there.row in
      let front = head_back (drop p sheet) p part (below_drop p sheet below) there.found in
      let next = p + 3 + length part.body in
      let later = rows_back more cores sheet next (with_row rows row) all below (omega (arith, leb-false (length sheet) p inside)) there.rest in
      let after : drop (3 + length part.body) (drop p sheet) ≡ drop next sheet = drop-drop (3 + length part.body) p sheet ∙ ap (λ n. drop n sheet) (omega arith) in
      record {
        read = row ∷ later.read;
        rows_are = later.rows_are ∙ append_assoc rows (row ∷ []) later.read;
        bytes_are =
            task_bytes_lem part row (tasks_bytes later.read) front.below there.holds
            ∙ ap (part_bytes part) (later.bytes_are ∙ sym after)
            ∙ front.bytes;
      })
]

-- ---- the platform

platform_body : (body : List ℕ) → 3 ≤ length body → length body ≡ 3 + get_or body 2 0 → body ≡ get_or body 0 0 ∷ get_or body 1 0 ∷ length (drop 3 body) ∷ drop 3 body
platform_body body long size =
    drop_more body 0 0 (omega arith)
    ∙ ap (λ t. get_or body 0 0 ∷ t) (drop_more body 1 0 (omega arith))
    ∙ ap (λ t. get_or body 0 0 ∷ get_or body 1 0 ∷ t) (drop_more body 2 0 (omega arith))
    ∙ ap (λ n. get_or body 0 0 ∷ get_or body 1 0 ∷ n ∷ drop 3 body) (omega (arith, length-drop 3 body))

platform_held : (part : Part) (cores bottom : ℕ) (favours : List ℕ) → held_in part ≡ Ok (platform cores bottom favours)
    → (part.kind ≡ 1) × (part.body ≡ cores ∷ bottom ∷ length favours ∷ favours)
platform_held part cores bottom favours e =
    let body = part.body in
    let kind : part.kind ≡ 1 = grind (arith, nat_tests) in
    let long : 3 ≤ length body = grind (arith, nat_tests) in
    let size : length body ≡ 3 + get_or body 2 0 = grind (arith, nat_tests) in
    let first : get_or body 0 0 ≡ cores = grind (arith, nat_tests) in
    let second : get_or body 1 0 ≡ bottom = grind (arith, nat_tests) in
    let rest : drop 3 body ≡ favours = grind (arith, nat_tests) in
    (kind, platform_body body long size ∙ cc)

platform_bytes_lem : (part : Part) (cores bottom : ℕ) (favours more : List ℕ) → held_in part ≡ Ok (platform cores bottom favours) → platform_bytes cores bottom favours ++ more ≡ part_bytes part more
platform_bytes_lem part cores bottom favours more e =
    let is = platform_held part cores bottom favours e in
    let size : 4 + length favours ≡ 1 + length (cores ∷ bottom ∷ length favours ∷ favours) = omega arith in
    ap (λ n. in_two n ++ (1 ∷ cores ∷ bottom ∷ length favours ∷ (favours ++ more))) size
    ∙ ap (λ t. in_two (1 + length t) ++ (1 ∷ (t ++ more))) (sym is.1)
    ∙ ap (λ k. in_two (1 + length part.body) ++ (k ∷ (part.body ++ more))) (sym is.0)

-- ---- the sheet

start_by : (b c : Bool) (sheet : List ℕ) (plan : Spelling) → started (cond b (Err (at 1 0)) (cond c (Ok 1) (Err (at 2 0)))) sheet ≡ Ok plan
    → (b ≡ false) × (c ≡ true) × (headed (head_in 1 (record_at sheet 1)) sheet (place_after (record_at sheet 1) 1) ≡ Ok plan)
start_by true c sheet plan e = absurd cc
start_by false true sheet plan e = (refl, refl, e)
start_by false false sheet plan e = absurd cc

record HeadThere (sheet : List ℕ) (plan : Spelling) (h : Result Part Spot) : Type 0 where
  pub part : Part
  pub found : h ≡ Ok part
  pub rest : headed (head_held part.place (held_in part)) sheet (4 + length part.body) ≡ Ok plan

first_back : (b : Bool) (h : Result Part Spot) (sheet : List ℕ) (plan : Spelling)
    → headed (head_in 1 (cond b (Ok None) (present h))) sheet (place_after (cond b (Ok None) (present h)) 1) ≡ Ok plan → HeadThere sheet plan h
first_back true h sheet plan e = absurd cc
first_back false (Ok part) sheet plan e = record { part = part; found = refl; rest = e }
first_back false (Err spot) sheet plan e = absurd cc

record PlanThere (sheet : List ℕ) (p : ℕ) (plan : Spelling) (x : Result Held Told) : Type 0 where
  pub holds : x ≡ Ok (platform plan.cores plan.bottom plan.favours)
  pub rest : rows_from (suc (length sheet)) plan.cores sheet p [] ≡ Ok plan.rows

planned_back : (head : Head) (p : ℕ) (v : Result (Unit {0}) Told) (rows : Result (List Row) Mistake) (sheet : List ℕ) (plan : Spelling) → rows ≡ rows_from (suc (length sheet)) head.cores sheet p []
    → planned_by head v sheet p ≡ Ok plan → PlanThere sheet p plan (Ok (platform head.cores head.bottom head.favours))
planned_back head p (Ok x) (Ok rows) sheet plan are e =
    let is : record { cores = head.cores; bottom = head.bottom; favours = head.favours; rows = rows } ≡ plan = (let said = rw (← are) at e in cc) in
    subst (λ s. PlanThere sheet p s (Ok (platform head.cores head.bottom head.favours))) is (record { holds = refl; rest = sym are })
planned_back head p (Ok x) (Err mistake) sheet plan are e = absurd (let said = rw (← are) at e in cc)
planned_back head p (Err told) rows sheet plan are e = absurd cc

held_there : (q p : ℕ) (x : Result Held Told) (sheet : List ℕ) (plan : Spelling) → headed (head_held q x) sheet p ≡ Ok plan → PlanThere sheet p plan x
held_there q p (Ok (platform cores bottom favours)) sheet plan e =
    planned_back (record { place = q; cores = cores; bottom = bottom; favours = favours }) p (cores_verdict cores favours) (rows_from (suc (length sheet)) cores sheet p []) sheet plan refl e
held_there q p (Ok (task row)) sheet plan e = absurd cc
held_there q p (Err told) sheet plan e = absurd cc

pub saved_again : ALoadedSheetIsSavedAsTheSameBytes
saved_again bytes plan are e =
    let below = everywhere bytes are in
    let start = start_by (eqb (length bytes) 0) (eqb (get_or bytes 0 0) 1) bytes plan e in
    let some = eqb-false (length bytes) 0 start.0 in
    let version = eqb-true (get_or bytes 0 0) 1 start.1 in
    let there = first_back (leb (length bytes) 1) (head_of (drop 1 bytes) 1) bytes plan start.2 in
    let part = there.part in
    let next = 4 + length part.body in
    let planned = held_there part.place next (held_in part) bytes plan there.rest in
    let front = head_back (drop 1 bytes) 1 part (below_drop 1 bytes below) there.found in
    let rows = rows_back (suc (length bytes)) plan.cores bytes next [] plan.rows below (omega arith) planned.rest in
    let tasks : tasks_bytes plan.rows ≡ drop (3 + length part.body) (drop 1 bytes) =
    ap tasks_bytes rows.rows_are ∙ rows.bytes_are ∙ ap (λ n. drop n bytes) (omega arith) ∙ sym (drop-drop (3 + length part.body) 1 bytes) in
    ap (λ t. 1 ∷ t) (
    platform_bytes_lem part plan.cores plan.bottom plan.favours (tasks_bytes plan.rows) planned.holds
    ∙ ap (part_bytes part) tasks
    ∙ front.bytes)
    ∙ ap (λ v. v ∷ drop 1 bytes) (sym version)
    ∙ sym (drop_more bytes 0 0 (omega (arith, some)))
