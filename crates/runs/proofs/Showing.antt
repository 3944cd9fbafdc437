-- One core goes on, and what the values then show.
use Rattle.std.proofs.Common.{◌≡◌, ℕ, ◌<◌, ◌≤◌, List, ◌++◌, length, get_or, set, take, Some, Option, sym, ap, ◌∙◌, subst, inl, inr, arith, length-set}
use Rattle.std.proofs.lemmas.List.{get_or-set_same, get_or-set_other, get_or_read, set-get_or, take_at}
use Rattle.std.proofs.lemmas.Bool.{cases_eq}
use Rattle.argument.specs.Plans.{Plan}
use Rattle.bus.specs.Courses.{Event}
use Rattle.bridge.specs.Scripts.{core_at}
use Rattle.bridge.specs.States.{Cell, State, put, job_of}
use Rattle.bridge.proofs.Cells.{phase, put_at, put_off}
use Rattle.bridge.proofs.Bus.{Cores}
use Rattle.runs.specs.declared.rows.Job.{Job}
use Rattle.runs.specs.declared.rows.LogRow.{LogRow}
use Rattle.runs.specs.declared.stage.Turn.TheVariants.{First, Last}
use Rattle.runs.specs.declared.stage.Stage.{Stage}
use Rattle.runs.specs.declared.stage.Stage.TheVariants.{Idle, Waiting, A, E, R}
use Rattle.runs.specs.declared.stage.Event.TheVariants.{Ended}
use Rattle.runs.specs.Machine.{job, number, none, onward, Inside}
use Rattle.runs.specs.Pool.{Pool, Pooled}
use Rattle.runs.specs.Shown.{Shows, AllInside, script_of, shown}

module _ {P : Plan} {J : List Job} {time : ℕ} {stages : List Stage} {started : Pool} {log : List LogRow} {S : State} (s : Shows P J time stages started log S) (h : Cores P (script_of J) S.cell S.has) where
  -- core c goes on to s', and its job k to x
  pub shows_on : (c k : ℕ) (s' : Stage) (x : Cell) (has' : ℕ → Option ℕ) (es : List Event) (started' : Pool) (log' : List LogRow)
      → c < length stages → core_at P (script_of J) k ≡ c
      → job s' ≡ has' c → ((d : ℕ) → (d ≡ c → ⊥) → has' d ≡ S.has d)
      → ((j : ℕ) → has' c ≡ Some j → (j ≡ k) × (phase x ≡ number s'))
      → ((j : ℕ) → j < length J → get_or log' j none ≡ shown P (job_of (script_of J) j (put S.cell k x j)))
      → Pooled P (script_of J) started' (record { now = S.now; cell = put S.cell k x; has = has'; events = es })
      → Shows P J time (set stages c s') started' log' (record { now = S.now; cell = put S.cell k x; has = has'; events = es })
  shows_on c k s' x has' es started' log' l same at_c others here rows marks = record {
    now = s.now;
    row = rows;
    has = λ d m. elim (cases_eq d c) [
      | inl e ↦ ap job (ap (λ i. get_or (set stages c s') i Idle) e ∙ get_or-set_same stages c s' Idle l) ∙ at_c ∙ sym (ap has' e)
      | inr ne ↦ ap job (get_or-set_other stages c d s' Idle ne) ∙ s.has d (rw length-set at m) ∙ sym (others d ne)
    ];
    phase = λ d j m e. elim (cases_eq d c) [
      | inl u ↦ (
          let w = here j (sym (ap has' u) ∙ e) in
          ap (λ i. phase (put S.cell k x i)) w.0 ∙ ap (λ y. phase y) (put_at S.cell k x) ∙ w.1
          ∙ sym (ap number (ap (λ i. get_or (set stages c s') i Idle) u ∙ get_or-set_same stages c s' Idle l)))
      | inr ne ↦ (
          let f = sym (others d ne) ∙ e in
          ap (λ y. phase y) (put_off S.cell k x j (λ u. ne (sym (h.holds d j f).same ∙ ap (core_at P (script_of J)) u ∙ same)))
          ∙ s.phase d j (rw length-set at m) f
          ∙ sym (ap number (get_or-set_other stages c d s' Idle ne)))
    ];
    pooled = marks;
  }

  -- rows that are not written
  pub rows_same : (k : ℕ) (x : Cell) → job_of (script_of J) k x ≡ job_of (script_of J) k (S.cell k) → (j : ℕ) → j < length J → get_or log j none ≡ shown P (job_of (script_of J) j (put S.cell k x j))
  rows_same k x e j l = elim (cases_eq j k) [
    | inl u ↦ s.row j l ∙ ap (shown P) (ap (λ i. job_of (script_of J) i (S.cell i)) u ∙ sym e ∙ sym (ap (λ i. job_of (script_of J) i (put S.cell k x i)) u ∙ ap (job_of (script_of J) k) (put_at S.cell k x)))
    | inr ne ↦ s.row j l ∙ ap (shown P) (sym (ap (job_of (script_of J) j) (put_off S.cell k x j ne)))
  ]

  pub rows_set : (k : ℕ) (x : Cell) (y : LogRow) → k < length log → y ≡ shown P (job_of (script_of J) k x) → (j : ℕ) → j < length J → get_or (set log k y) j none ≡ shown P (job_of (script_of J) j (put S.cell k x j))
  rows_set k x y m e j l = elim (cases_eq j k) [
    | inl u ↦ ap (λ i. get_or (set log k y) i none) u ∙ get_or-set_same log k y none m ∙ e ∙ ap (shown P) (sym (ap (λ i. job_of (script_of J) i (put S.cell k x i)) u ∙ ap (job_of (script_of J) k) (put_at S.cell k x)))
    | inr ne ↦ get_or-set_other log k j y none ne ∙ s.row j l ∙ ap (shown P) (sym (ap (job_of (script_of J) j) (put_off S.cell k x j ne)))
  ]

pub inside_set : (n : ℕ) (stages : List Stage) (c : ℕ) (s : Stage) → AllInside n stages → Inside n s → AllInside n (set stages c s)
inside_set n stages c s h i d l = elim (cases_eq d c) [
  | inl u ↦ subst (Inside n) (sym (ap (λ i. get_or (set stages c s) i Idle) u ∙ get_or-set_same stages c s Idle (omega (arith, u, length-set stages c s)))) i
  | inr ne ↦ subst (Inside n) (sym (get_or-set_other stages c d s Idle ne)) (h d (rw length-set at l))
]

pub inside_on : (n : ℕ) (s : Stage) → Inside n s → Inside n (onward s Ended)
inside_on n Idle i = i
inside_on n (Waiting First k) i = i
inside_on n (Waiting Last k) i = i
inside_on n (A k) i = i
inside_on n (E k) i = i
inside_on n (R k) i = tt

-- what the cores' vector holds after a loop over it, which ended at core c with its stage as it was
pub inside_back : (k n c m : ℕ) (stages rest : List Stage) → k ≡ n → length stages ≡ m → AllInside k stages → AllInside n (take m (set stages c (get_or stages c Idle) ++ rest))
inside_back k n c m stages rest e l h = rw (set-get_or stages c Idle, take_at stages rest m l) (subst (λ i. AllInside i stages) e h)

-- of more jobs each is still one
pub inside_more : (m n : ℕ) (stages : List Stage) → m ≤ n → AllInside m stages → AllInside n stages
inside_more m n stages l h c k = go (get_or stages c Idle) (h c k)
  where
    go : (s : Stage) → Inside m s → Inside n s
    go Idle i = i
    go (Waiting t k) i = omega arith
    go (A k) i = omega arith
    go (E k) i = omega arith
    go (R k) i = omega arith

-- the stage that is read at c
pub inside_read : (m n : ℕ) (stages : List Stage) (s : Stage) (c : ℕ) → m ≡ n → AllInside m stages → c < length stages → s ≡ get_or stages c s → Inside n s
inside_read m n stages s c e h l r = subst (Inside n) (sym (get_or_read stages c s l r Idle)) (subst (λ i. Inside i (get_or stages c Idle)) e (h c l))
