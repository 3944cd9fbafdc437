-- Where the first of a core stands, and the insertion of one more.
use Rattle.std.proofs.Common.{◌≡◌, ◌==◌, ℕ, suc, ◌+◌, ◌-◌, ◌<◌, ◌≤◌, Bool, true, ◌&&◌, eqb, ltb, List, [], ◌∷◌, length, get_or, take, drop, Some, None, sym, refl, ap, ◌∙◌, subst, inl, inr, one-add, arith}
use Rattle.std.proofs.lemmas.Bool.{cases_eq, cases_lt, cases_Bool, eq-eqb, ne_eqb, and_from, and_left, lt-ltb, le-ltb}
use Rattle.std.proofs.lemmas.List.{get_or-drop, get_or-take, length-take}
use Rattle.std.specs.List.{remove, position, position_or_len}
use Rattle.std.specs.Ordering.{is_lt}
use Rattle.roster.specs.Order.{insert_by, rises}
use Rattle.argument.specs.Sums.{on}
use Rattle.argument.specs.Plans.{Plan}
use Rattle.bridge.specs.Scripts.{Script}
use Rattle.bridge.specs.States.{State}
use Rattle.bridge.proofs.Sums.{on_true, on_false}
use Rattle.bridge.proofs.Cells.{phase}
use Rattle.runs.specs.declared.rows.Job.{Job}
use Rattle.runs.specs.declared.ready.Ready.{Ready}
use Rattle.runs.specs.Pool.{ready_of, chosen, without, count, RowsBelow, Keyed, AllKeyed, Pooled, ready_cmp}
use Rattle.runs.specs.Shown.{script_of, no_job, Fetched}
use Rattle.runs.proofs.Pools.{unchosen}

-- whether a job is of the core
abbrev pub of : ℕ → Ready → Bool
of c x = x.core == c

-- the first of the core stands at i, or there is none
pub take_is : (c : ℕ) (xs : List Ready) (y : Ready) (i : ℕ) → Some i ≡ position (of c) xs → y ≡ get_or xs i y → (Some y.row ≡ chosen c xs) × (remove xs i ≡ without c xs)
take_is c xs y i e v = elim (cases_lt (position_or_len (of c) xs) (length xs)) [
  | inl l ↦ (let w = rw (lt-ltb (position_or_len (of c) xs) (length xs) l) at e in let p : i ≡ position_or_len (of c) xs = cc in rw p (go xs l (subst (λ j. y ≡ get_or xs j y) p v)))
  | inr l ↦ (let w = rw (le-ltb (position_or_len (of c) xs) (length xs) l) at e in absurd (cc))
]
  where
    go : (xs : List Ready) → position_or_len (of c) xs < length xs → y ≡ get_or xs (position_or_len (of c) xs) y → (Some y.row ≡ chosen c xs) × (remove xs (position_or_len (of c) xs) ≡ without c xs)
    go [] l e = absurd (omega arith)
    go (x ∷ xs) l e = elim (cases_Bool (eqb x.core c)) [
      | inl u ↦ (let e' : y ≡ x = rw u at e in rw u (ap (λ (z : Ready). Some z.row) e', refl))
      | inr u ↦ (
          let l' : 1 + position_or_len (of c) xs < suc (length xs) = rw u at l in
          let e' : y ≡ get_or xs (position_or_len (of c) xs) y = rw (u, one-add) at e in
          let w = go xs (omega arith) e' in
          rw (u, one-add) (w.0, ap (λ zs. x ∷ zs) w.1))
    ]

pub take_none : (c : ℕ) (xs : List Ready) → None ≡ position (of c) xs → (None ≡ chosen c xs) × (xs ≡ without c xs)
take_none c xs e = elim (cases_lt (position_or_len (of c) xs) (length xs)) [
  | inl l ↦ (let w = rw (lt-ltb (position_or_len (of c) xs) (length xs) l) at e in absurd (cc))
  | inr l ↦ go xs l
]
  where
    go : (xs : List Ready) → length xs ≤ position_or_len (of c) xs → (None ≡ chosen c xs) × (xs ≡ without c xs)
    go [] l = (refl, refl)
    go (x ∷ xs) l = elim (cases_Bool (eqb x.core c)) [
      | inl u ↦ (let l' : suc (length xs) ≤ 0 = rw u at l in absurd (omega arith))
      | inr u ↦ (
          let l' : suc (length xs) ≤ 1 + position_or_len (of c) xs = rw u at l in
          let w = go xs (omega arith) in
          rw u (w.0, ap (λ zs. x ∷ zs) w.1))
    ]

-- ---- insertion

count_insert : (j : ℕ) (x : Ready) (xs : List Ready) → count j (insert_by ready_cmp x xs) ≡ on (eqb x.row j) 1 + count j xs
count_insert j x [] = refl
count_insert j x (y ∷ ys) = elim (cases_Bool (is_lt (ready_cmp x y))) [
  | inl u ↦ rw u refl
  | inr u ↦ rw u (let w = count_insert j x ys in omega arith)
]

keyed_insert : (P : Plan) (Z : Script) (x : Ready) (xs : List Ready) → Keyed P Z x → AllKeyed P Z xs → AllKeyed P Z (insert_by ready_cmp x xs)
keyed_insert P Z x [] a b = (a, tt)
keyed_insert P Z x (y ∷ ys) a b = elim (cases_Bool (is_lt (ready_cmp x y))) [
  | inl u ↦ rw u (a, b)
  | inr u ↦ rw u (b.0, keyed_insert P Z x ys a b.1)
]

below_insert : (n : ℕ) (x : Ready) (xs : List Ready) → x.row < n → RowsBelow n xs → RowsBelow n (insert_by ready_cmp x xs)
below_insert n x [] a b = (a, tt)
below_insert n x (y ∷ ys) a b = elim (cases_Bool (is_lt (ready_cmp x y))) [
  | inl u ↦ rw u (a, b)
  | inr u ↦ rw u (b.0, below_insert n x ys a b.1)
]

-- the job that a loop over the rows from u on comes to
pub job_from : (J D : List Job) (u i k : ℕ) → D ≡ J → k ≡ u + i → i < length (take (length D - u) (drop u D)) → get_or (take (length D - u) (drop u D)) i no_job ≡ get_or J k no_job
job_from J D u i k e f l =
    let m : i < length D - u = omega (arith, length-take (length D - u) (drop u D), l) in
    get_or-take (length D - u) (drop u D) i no_job m ∙ get_or-drop u D i no_job ∙ ap (λ j. get_or D j no_job) (sym f) ∙ ap (λ js. get_or js k no_job) e

-- one more job is ready
module _ (J : List Job) (xs : List Ready) {k : ℕ} {z : Job} {x : Ready} {ys : List Ready}
    (l : k < length J) (job : z ≡ get_or J k no_job) (kept : x ≡ ready_of k z) (e : ys ≡ insert_by ready_cmp x xs) where
  is_ready : x ≡ ready_of k (get_or J k no_job)
  is_ready = kept ∙ ap (ready_of k) job

  at_row : x.row ≡ k
  at_row = ap (λ (y : Ready). y.row) is_ready

  pub below_more : (n : ℕ) → k < n → RowsBelow n xs → RowsBelow n ys
  below_more n m h = rw e (below_insert n x xs (omega (arith, at_row, m)) h)

  keyed : {P : Plan} → Fetched P J k → Keyed P (script_of J) x
  keyed f = rw is_ready (record { core = f.core; rank = f.rank; release = refl })

  pub pool_insert : {P : Plan} {S : State} → Fetched P J k → z.release ≤ S.now → (rises ready_cmp xs ≡ true → rises ready_cmp ys ≡ true)
      → Pooled P (script_of J) (record { ready = xs; upto = k }) S → Pooled P (script_of J) (record { ready = ys; upto = k + 1 }) S
  pool_insert {P = P} {S = S} f due up h = record {
    most = omega arith;
    before = λ j u. elim (cases_eq j k) [ inl v ↦ omega (arith, due, ap (λ (y : Job). y.release) job, ap (λ i. (get_or J i no_job).release) v) | inr v ↦ h.before j (omega arith) ];
    after = λ j u v. h.after j (omega arith) v;
    later = λ j u v. h.later j (omega arith) v;
    held = λ j. (
        let w = ap (count j) e ∙ count_insert j x xs in
        elim (cases_eq j k) [
          | inl v ↦ (
              let none = on_false (ltb j k && eqb (phase (S.cell j)) 0) 1 (and_left (ltb j k) (eqb (phase (S.cell j)) 0) (le-ltb j k (omega arith))) in
              let one = on_true (eqb x.row j) 1 (eq-eqb x.row j (at_row ∙ sym v)) in
              let here = on_true (ltb j (k + 1) && eqb (phase (S.cell j)) 0) 1 (and_from (ltb j (k + 1)) (eqb (phase (S.cell j)) 0) (lt-ltb j (k + 1) (omega arith)) (h.later j (omega arith) (omega arith))) in
              omega (arith, w, none, one, here, h.held j))
          | inr v ↦ (
              let none = on_false (eqb x.row j) 1 (ne_eqb x.row j (λ q. v (sym q ∙ at_row))) in
              let same : on (ltb j (k + 1) && eqb (phase (S.cell j)) 0) 1 ≡ on (ltb j k && eqb (phase (S.cell j)) 0) 1 =
              ap (λ b. on (b && eqb (phase (S.cell j)) 0) 1) (elim (cases_lt j k) [
                | inl m ↦ lt-ltb j (k + 1) (omega arith) ∙ sym (lt-ltb j k m)
                | inr m ↦ le-ltb j (k + 1) (omega arith) ∙ sym (le-ltb j k m)
              ]) in
              omega (arith, w, none, same, h.held j))
        ]);
    keyed = subst (AllKeyed P (script_of J)) (sym e) (keyed_insert P (script_of J) x xs (keyed f) h.keyed);
    rising = up h.rising;
  }

-- nothing was chosen, and nothing was taken out
pub same_items : (c : ℕ) (xs ys : List Ready) → None ≡ chosen c xs → ys ≡ without c xs → ys ≡ xs
same_items c xs ys e h = h ∙ unchosen c xs (sym e)
