-- The ready jobs in the roster: which goes first, and what is left.
use Rattle.std.proofs.Common.{◌≡◌, ℕ, ◌+◌, ◌<◌, ◌≤◌, Bool, true, false, not, ◌&&◌, eqb, ltb, ◌⊎◌, List, [], ◌∷◌, Some, None, Option, Less, Equal, sym, refl, ap, ◌∙◌, subst, inl, inr, arith}
use Rattle.std.proofs.lemmas.Bool.{cases_eq, cases_lt, cases_Bool, both_ways, eq-eqb, ne_eqb, eqb-true, and_parts, and_from, and_right, lt-ltb, ltb-true, not-true}
use Rattle.std.specs.Ordering.{is_lt, nat_cmp}
use Rattle.std.specs.Cmp.{nat_cmp_is}
use Rattle.roster.specs.Order.{none_less, rises}
use Rattle.tasks.specs.Rows.{bounded}
use Rattle.tasks.specs.declared.task.Row.{Row}
use Rattle.tasks.proofs.Verdicts.{accepted_is_bounded}
use Rattle.argument.specs.Sums.{on}
use Rattle.argument.specs.Plans.{Plan, SoundPlan}
use Rattle.bus.specs.Courses.{Event}
use Rattle.bridge.specs.Scripts.{Script, task_at, core_at}
use Rattle.bridge.specs.States.{Cell, State, put}
use Rattle.bridge.specs.Moments.{first}
use Rattle.bridge.proofs.Allowed.{Allowed}
use Rattle.bridge.proofs.Sums.{on_true, on_false}
use Rattle.bridge.proofs.Cells.{phase, put_at, put_off}
use Rattle.bridge.proofs.Steps.{Ranked, Ready, ready_parts, ready_from, FirstOf, first_of}
use Rattle.runs.specs.declared.ready.Ready as Kept
use Rattle.runs.specs.Pool.{chosen, without, count, RowsBelow, Keyed, AllKeyed, Pool, Pooled, ready_cmp}

abbrev Item : Type 0
Item = Kept.Ready

-- ---- one job goes on that was started, or is

unstarted_same : (f : ℕ → Cell) (k : ℕ) (x : Cell) → 1 ≤ phase (f k) → 1 ≤ phase x → (j : ℕ) → eqb (phase (put f k x j)) 0 ≡ eqb (phase (f j)) 0
unstarted_same f k x a b j = elim (cases_eq j k) [
  | inl u ↦ ne_eqb (phase (put f k x j)) 0 (λ e. let v = ap (λ i. phase (put f k x i)) u in let w = ap phase (put_at f k x) in omega arith)
      ∙ sym (ne_eqb (phase (f j)) 0 (λ e. let v = ap (λ i. phase (f i)) u in omega arith))
  | inr ne ↦ ap (λ y. eqb (phase y) 0) (put_off f k x j ne)
]

pub pool_on : {P : Plan} {Z : Script} {pool : Pool} {S : State} → Pooled P Z pool S → (k : ℕ) (x : Cell) {has : ℕ → Option ℕ} {es : List Event}
    → 1 ≤ phase (S.cell k) → 1 ≤ phase x → Pooled P Z pool (record { now = S.now; cell = put S.cell k x; has = has; events = es })
pool_on {pool = pool} {S = S} h k x a b = record {
  most = h.most;
  before = h.before;
  after = h.after;
  later = λ j u v. unstarted_same S.cell k x a b j ∙ h.later j u v;
  held = λ j. h.held j ∙ ap (λ t. on (ltb j pool.upto && t) 1) (sym (unstarted_same S.cell k x a b j));
  keyed = h.keyed;
  rising = h.rising;
}

-- ---- the order

-- of one core the lower rank is less, and of one rank the earlier release
lower_rank : (x y : Item) → y.core ≡ x.core → y.rank < x.rank → is_lt (ready_cmp y x) ≡ true
lower_rank x y c l =
    let p : nat_cmp y.core x.core ≡ Equal = sym (nat_cmp_is y.core x.core Equal c) in
    let q : nat_cmp y.rank x.rank ≡ Less = sym (nat_cmp_is y.rank x.rank Less l) in
    rw (p, q) refl

earlier_release : (x y : Item) → y.core ≡ x.core → y.rank ≡ x.rank → y.release < x.release → is_lt (ready_cmp y x) ≡ true
earlier_release x y c e m =
    let p : nat_cmp y.core x.core ≡ Equal = sym (nat_cmp_is y.core x.core Equal c) in
    let q : nat_cmp y.rank x.rank ≡ Equal = sym (nat_cmp_is y.rank x.rank Equal e) in
    let r : nat_cmp y.release x.release ≡ Less = sym (nat_cmp_is y.release x.release Less m) in
    rw (p, q, r) refl

not_less : (x y : Item) → is_lt (ready_cmp y x) ≡ false → y.core ≡ x.core → (x.rank < y.rank) ⊎ ((x.rank ≡ y.rank) × (x.release ≤ y.release))
not_less x y h c = elim (cases_lt y.rank x.rank) [
  | inl l ↦ absurd (both_ways (is_lt (ready_cmp y x)) h (lower_rank x y c l))
  | inr l ↦ elim (cases_eq x.rank y.rank) [
    | inr ne ↦ inl (omega arith)
    | inl e ↦ elim (cases_lt y.release x.release) [
      | inr m ↦ inr (e, m)
      | inl m ↦ absurd (both_ways (is_lt (ready_cmp y x)) h (earlier_release x y c (sym e) m))
    ]
  ]
]

module _ (P : Plan) (Z : Script) where
  ranked_from : (x y : Item) → Keyed P Z x → Keyed P Z y → is_lt (ready_cmp y x) ≡ false → core_at P Z x.row ≡ core_at P Z y.row → Ranked P Z x.row y.row
  ranked_from x y a b h c = elim (not_less x y h (b.core ∙ sym c ∙ sym a.core)) [
    | inl l ↦ inl (omega (arith, a.rank, b.rank))
    | inr l ↦ inr (sym a.rank ∙ l.0 ∙ b.rank, omega (arith, l.1, a.release, b.release))
  ]

  -- a kept job is the first of the list or in the rest
  split : (x : Item) (xs : List Item) (j : ℕ) → 1 ≤ count j (x ∷ xs) → (x.row ≡ j) ⊎ (1 ≤ count j xs)
  split x xs j h = elim (cases_eq x.row j) [
    | inl e ↦ inl e
    | inr ne ↦ inr (omega (arith, h, on_false (eqb x.row j) 1 (ne_eqb x.row j ne)))
  ]

  none_less_lem : (x : Item) (xs : List Item) → Keyed P Z x → AllKeyed P Z xs → none_less ready_cmp x xs ≡ true → (j : ℕ) → 1 ≤ count j xs → core_at P Z x.row ≡ core_at P Z j → Ranked P Z x.row j
  none_less_lem x [] a b h j n c = absurd (omega arith)
  none_less_lem x (y ∷ ys) a b h j n c =
      let p = and_parts (not (is_lt (ready_cmp y x))) (none_less ready_cmp x ys) h in
      elim (split y ys j n) [
        | inl e ↦ subst (Ranked P Z x.row) e (ranked_from x y a b.0 (not-true (is_lt (ready_cmp y x)) p.0) (c ∙ ap (core_at P Z) (sym e)))
        | inr m ↦ none_less_lem x ys a b.1 p.1 j m c
      ]

  -- what the choice says
  pub record Best (c : ℕ) (xs : List Item) (k : ℕ) : Type 0 where
    pub kept : 1 ≤ count k xs
    pub same : core_at P Z k ≡ c
    pub goes : (j : ℕ) → 1 ≤ count j xs → core_at P Z j ≡ c → Ranked P Z k j

  pub best : (c : ℕ) (xs : List Item) → AllKeyed P Z xs → rises ready_cmp xs ≡ true → (k : ℕ) → chosen c xs ≡ Some k → Best c xs k
  best c [] a r k e = absurd (cc)
  best c (x ∷ xs) a r k e =
      let p = and_parts (none_less ready_cmp x xs) (rises ready_cmp xs) r in
      elim (cases_eq x.core c) [
        | inl u ↦ (
            let v : x.row ≡ k = (let w = rw (eq-eqb x.core c u) at e in cc) in
            let s : core_at P Z x.row ≡ c = sym a.0.core ∙ u in
            record {
              kept = omega (arith, on_true (eqb x.row k) 1 (eq-eqb x.row k v));
              same = ap (core_at P Z) (sym v) ∙ s;
              goes = λ j n d. elim (split x xs j n) [
                | inl i ↦ inr (ap (λ q. (task_at P Z q).rank) (sym v ∙ i), omega (arith, ap (λ q. (Z.row q).release) (sym v ∙ i)))
                | inr m ↦ subst (λ q. Ranked P Z q j) v (none_less_lem x xs a.0 a.1 p.0 j m (s ∙ sym d))
              ];
            })
        | inr u ↦ (
            let b = best c xs a.1 p.1 k (rw (ne_eqb x.core c u) at e) in
            record {
              kept = omega (arith, b.kept);
              same = b.same;
              goes = λ j n d. elim (split x xs j n) [
                | inl i ↦ absurd (u (a.0.core ∙ ap (core_at P Z) i ∙ d))
                | inr m ↦ b.goes j m d
              ];
            })
      ]

  pub no_best : (c : ℕ) (xs : List Item) → AllKeyed P Z xs → chosen c xs ≡ None → (j : ℕ) → 1 ≤ count j xs → core_at P Z j ≡ c → ⊥
  no_best c [] a e j n d = omega arith
  no_best c (x ∷ xs) a e j n d = elim (cases_eq x.core c) [
    | inl u ↦ (let w = rw (eq-eqb x.core c u) at e in cc)
    | inr u ↦ elim (split x xs j n) [
      | inl i ↦ u (a.0.core ∙ ap (core_at P Z) i ∙ d)
      | inr m ↦ no_best c xs a.1 (rw (ne_eqb x.core c u) at e) j m d
    ]
  ]

  pub without_count : (c : ℕ) (xs : List Item) (k : ℕ) → chosen c xs ≡ Some k → (j : ℕ) → on (eqb k j) 1 + count j (without c xs) ≡ count j xs
  without_count c [] k e j = absurd (cc)
  without_count c (x ∷ xs) k e j = elim (cases_eq x.core c) [
    | inl u ↦ (
        let v : x.row ≡ k = (let w = rw (eq-eqb x.core c u) at e in cc) in
        rw (eq-eqb x.core c u) (ap (λ q. on (eqb q j) 1 + count j xs) (sym v)))
    | inr u ↦ (
        let w = without_count c xs k (rw (ne_eqb x.core c u) at e) j in
        rw (ne_eqb x.core c u) (omega arith))
  ]

  pub without_keyed : (c : ℕ) (xs : List Item) → AllKeyed P Z xs → AllKeyed P Z (without c xs)
  without_keyed c [] a = tt
  without_keyed c (x ∷ xs) a = elim (cases_Bool (eqb x.core c)) [
    | inl u ↦ rw u a.1
    | inr u ↦ rw u (a.0, without_keyed c xs a.1)
  ]

none_without : (c : ℕ) (x : Item) (xs : List Item) → none_less ready_cmp x xs ≡ true → none_less ready_cmp x (without c xs) ≡ true
none_without c x [] h = refl
none_without c x (y ∷ ys) h =
    let p = and_parts (not (is_lt (ready_cmp y x))) (none_less ready_cmp x ys) h in
    elim (cases_Bool (eqb y.core c)) [
      | inl u ↦ rw u p.1
      | inr u ↦ rw u (and_from (not (is_lt (ready_cmp y x))) (none_less ready_cmp x (without c ys)) p.0 (none_without c x ys p.1))
    ]

pub without_rises : (c : ℕ) (xs : List Item) → rises ready_cmp xs ≡ true → rises ready_cmp (without c xs) ≡ true
without_rises c [] h = refl
without_rises c (x ∷ xs) h =
    let p = and_parts (none_less ready_cmp x xs) (rises ready_cmp xs) h in
    elim (cases_Bool (eqb x.core c)) [
      | inl u ↦ rw u p.1
      | inr u ↦ rw u (and_from (none_less ready_cmp x (without c xs)) (rises ready_cmp (without c xs)) (none_without c x xs p.0) (without_rises c xs p.1))
    ]

pub more_below : (m n : ℕ) (xs : List Item) → m ≤ n → RowsBelow m xs → RowsBelow n xs
more_below m n [] l h = tt
more_below m n (x ∷ xs) l h = (omega (arith, h.0), more_below m n xs l h.1)

pub without_below : (n c : ℕ) (xs : List Item) → RowsBelow n xs → RowsBelow n (without c xs)
without_below n c [] h = tt
without_below n c (x ∷ xs) h = elim (cases_Bool (eqb x.core c)) [
  | inl u ↦ rw u h.1
  | inr u ↦ rw u (h.0, without_below n c xs h.1)
]

pub chosen_below : (n c : ℕ) (xs : List Item) → RowsBelow n xs → (k : ℕ) → chosen c xs ≡ Some k → k < n
chosen_below n c [] h k e = absurd (cc)
chosen_below n c (x ∷ xs) h k e = elim (cases_eq x.core c) [
  | inl u ↦ (let w = rw (eq-eqb x.core c u) at e in let v : x.row ≡ k = cc in omega (arith, h.0))
  | inr u ↦ chosen_below n c xs h.1 k (rw (ne_eqb x.core c u) at e)
]

pub unchosen : (c : ℕ) (xs : List Item) → chosen c xs ≡ None → without c xs ≡ xs
unchosen c [] e = refl
unchosen c (x ∷ xs) e = elim (cases_eq x.core c) [
  | inl u ↦ (let w = rw (eq-eqb x.core c u) at e in absurd (cc))
  | inr u ↦ (let h = rw (ne_eqb x.core c u) at e in rw (ne_eqb x.core c u) (ap (λ ys. x ∷ ys) (unchosen c xs h)))
]

-- ---- the definition's choice is the program's

some_on : (b : Bool) → 1 ≤ on b 1 → b ≡ true
some_on true h = refl
some_on false h = absurd (omega arith)

spacing_some : (row : Row) → bounded row ≡ true → 1 ≤ row.spacing
spacing_some row h = grind arith

module _ {P : Plan} {Z : Script} (sound : SoundPlan P) (ok : Allowed P Z) {pool : Pool} {S : State} (h : Pooled P Z pool S)
    (released : (k : ℕ) → pool.upto ≤ k → k < Z.size → S.now < (Z.row k).release) (c : ℕ) where
  kept_ready : (k : ℕ) → 1 ≤ count k pool.ready → core_at P Z k ≡ c → (k < Z.size) × Ready P Z S c k
  kept_ready k n s =
      let t = some_on (ltb k pool.upto && eqb (phase (S.cell k)) 0) (omega (arith, n, h.held k)) in
      let p = and_parts (ltb k pool.upto) (eqb (phase (S.cell k)) 0) t in
      let l = ltb-true k pool.upto p.0 in
      (omega (arith, l, h.most), record { same = s; released = h.before k l; unstarted = eqb-true (phase (S.cell k)) 0 p.1 })

  ready_kept : (k : ℕ) → k < Z.size → Ready P Z S c k → 1 ≤ count k pool.ready
  ready_kept k l r =
      let u : k < pool.upto = elim (cases_lt k pool.upto) [ inl v ↦ v | inr v ↦ absurd (omega (arith, released k v l, r.released)) ] in
      let b = and_from (ltb k pool.upto) (eqb (phase (S.cell k)) 0) (lt-ltb k pool.upto u) (eq-eqb (phase (S.cell k)) 0 r.unstarted) in
      omega (arith, h.held k, on_true (ltb k pool.upto && eqb (phase (S.cell k)) 0) 1 b)

  one_first : (j k : ℕ) → j < Z.size → k < Z.size → core_at P Z j ≡ c → core_at P Z k ≡ c → Ranked P Z j k → Ranked P Z k j → j ≡ k
  one_first j k a b s t p q = elim (cases_eq j k) [
    | inl e ↦ e
    | inr ne ↦ (
        let rank : (task_at P Z j).rank ≡ (task_at P Z k).rank = omega arith in
        let same = sound.ranks (Z.row j).task (Z.row k).task (ok.known j a) (ok.known k b) (s ∙ sym t) rank in
        let some = spacing_some (task_at P Z j) (accepted_is_bounded (task_at P Z j) (sound.tasks (Z.row j).task (ok.known j a))) in
        absurd (elim (ok.spaced j k a b ne same) [ inl u ↦ omega arith | inr u ↦ omega arith ]))
  ]

  pub first_is : (o : Option ℕ) → chosen c pool.ready ≡ o → first P Z S c Z.size ≡ o
  first_is o e = go o e (first P Z S c Z.size) (first_of P Z S c Z.size)
    where
      go : (o : Option ℕ) → chosen c pool.ready ≡ o → (w : Option ℕ) → FirstOf P Z S c Z.size w → w ≡ o
      go None e None f = refl
      go None e (Some j) f = let r = ready_parts P Z S c j f.1 in absurd (no_best P Z c pool.ready h.keyed e j (ready_kept j f.0 r) r.same)
      go (Some k) e None f =
          let b = best P Z c pool.ready h.keyed h.rising k e in
          let r = kept_ready k b.kept b.same in
          absurd (f k r.0 (ready_from P Z S c k r.1))
      go (Some k) e (Some j) f =
          let b = best P Z c pool.ready h.keyed h.rising k e in
          let r = kept_ready k b.kept b.same in
          let q = ready_parts P Z S c j f.1 in
          ap Some (one_first j k f.0 r.0 q.same b.same (f.2 k r.0 (ready_from P Z S c k r.1)) (b.goes j (ready_kept j f.0 q) q.same))

  pub pool_start : (k : ℕ) (x : Cell) {has : ℕ → Option ℕ} {es : List Event} → chosen c pool.ready ≡ Some k → 1 ≤ phase x
      → Pooled P Z (record { ready = without c pool.ready; upto = pool.upto }) (record { now = S.now; cell = put S.cell k x; has = has; events = es })
  pool_start k x e a =
      let b = best P Z c pool.ready h.keyed h.rising k e in
      let r = kept_ready k b.kept b.same in
      record {
        most = h.most;
        before = h.before;
        after = h.after;
        later = λ j u v. elim (cases_eq j k) [
          | inl i ↦ absurd (omega (arith, released j u v, ap (λ q. (Z.row q).release) i, r.1.released))
          | inr ne ↦ ap (λ y. eqb (phase y) 0) (put_off S.cell k x j ne) ∙ h.later j u v
        ];
        held = λ j. (
            let w = without_count P Z c pool.ready k e j in
            elim (cases_eq j k) [
              | inl i ↦ (
                  let z = on_false (ltb j pool.upto && eqb (phase (put S.cell k x j)) 0) 1 (and_right (ltb j pool.upto) (eqb (phase (put S.cell k x j)) 0)
                  (ne_eqb (phase (put S.cell k x j)) 0 (λ q. let v = ap (λ i. phase (put S.cell k x i)) i in let y = ap phase (put_at S.cell k x) in omega arith))) in
                  let one = on_true (eqb k j) 1 (eq-eqb k j (sym i)) in
                  omega (arith, w, z, one, h.held j, at_most (ltb j pool.upto && eqb (phase (S.cell j)) 0)))
              | inr ne ↦ (
                  let none = on_false (eqb k j) 1 (ne_eqb k j (λ q. ne (sym q))) in
                  let same = ap (λ y. on (ltb j pool.upto && eqb (phase y) 0) 1) (put_off S.cell k x j ne) in
                  omega (arith, w, none, h.held j, same))
            ]);
        keyed = without_keyed P Z c pool.ready h.keyed;
        rising = without_rises c pool.ready h.rising;
      }
    where
      at_most : (b : Bool) → on b 1 ≤ 1
      at_most true = omega arith
      at_most false = omega arith
