-- When a job asks for a moment, and the soonest that any asks for.
use Rattle.std.proofs.Common.{◌≡◌, ℕ, zero, suc, ◌<◌, ◌≤◌, min, cond, eqb, ltb, Some, None, Option, refl, ap, ◌∙◌, inl, inr, arith}
use Rattle.std.proofs.lemmas.Bool.{cases_eq, cases_lt, lt-ltb}
use Rattle.bridge.specs.Scripts.{Script}
use Rattle.bridge.specs.States.{Cell, State}
use Rattle.bridge.specs.Runs.{at_moment}
use Rattle.bridge.proofs.Cells.{phase}

-- when a job will ask for a moment, if it will
abbrev pub due : ℕ → ℕ → Cell → Option ℕ
due now release x =
    cond (eqb (phase x) 0) (cond (ltb now release) (Some release) None)
    (cond (eqb (phase x) 2) (Some x.a_end)
    (cond (eqb (phase x) 3) (Some x.e_end)
    (cond (eqb (phase x) 5) (Some x.end) None)))

abbrev pub sooner : Option ℕ → Option ℕ → Option ℕ
sooner None y = y
sooner (Some t) None = Some t
sooner (Some t) (Some u) = Some (min t u)

abbrev pub next : Script → State → ℕ → Option ℕ
next Z S zero = None
next Z S (suc n) = sooner (next Z S n) (due S.now (Z.row n).release (S.cell n))

abbrev pub moved_to : State → Option ℕ → State
moved_to S None = S
moved_to S (Some t) = at_moment t S

-- ---- the soonest

abbrev pub NextOf : Script → State → ℕ → Option ℕ → Type 0
NextOf Z S n None = (k : ℕ) → k < n → due S.now (Z.row k).release (S.cell k) ≡ None
NextOf Z S n (Some t) = ((k : ℕ) × (k < n) × (due S.now (Z.row k).release (S.cell k) ≡ Some t)) × ((k d : ℕ) → k < n → due S.now (Z.row k).release (S.cell k) ≡ Some d → t ≤ d)

pub next_of : (Z : Script) (S : State) (n : ℕ) → NextOf Z S n (next Z S n)
next_of Z S zero = λ k l. absurd (omega arith)
next_of Z S (suc n) = go (next Z S n) (next_of Z S n) (due S.now (Z.row n).release (S.cell n)) refl
  where
    D : ℕ → Option ℕ
    D k = due S.now (Z.row k).release (S.cell k)

    go : (o : Option ℕ) → NextOf Z S n o → (w : Option ℕ) → D n ≡ w → NextOf Z S (suc n) (sooner o w)
    go None h None e = λ k l. elim (cases_eq k n) [ inl u ↦ ap D u ∙ e | inr u ↦ h k (omega arith) ]
    go None h (Some t) e = ((n, omega arith, e), λ k d l v. elim (cases_eq k n) [ inl u ↦ grind (arith, ap D u) | inr u ↦ grind (arith, h k) ])
    go (Some t) h None e = (
      (h.0.0, omega (arith, h.0.1), h.0.2),
      λ k d l v. elim (cases_eq k n) [ inl u ↦ grind (arith, ap D u) | inr u ↦ h.1 k d (omega arith) v ],
    )
    go (Some t) h (Some s) e = (
      elim (cases_lt t s) [ inl u ↦ (h.0.0, omega (arith, h.0.1), grind (arith, h.0.2)) | inr u ↦ (n, omega arith, grind (arith, e)) ],
      λ k d l v. elim (cases_eq k n) [ inl u ↦ grind (arith, ap D u) | inr u ↦ omega (arith, h.1 k d (omega arith) v) ],
    )

pub due_release : (now release : ℕ) (x : Cell) → phase x ≡ 0 → now < release → due now release x ≡ Some release
due_release now release x e l = rw (e, lt-ltb _ _ l) refl

pub due_a : (now release : ℕ) (x : Cell) → phase x ≡ 2 → due now release x ≡ Some x.a_end
due_a now release x e = rw e refl

pub due_e : (now release : ℕ) (x : Cell) → phase x ≡ 3 → due now release x ≡ Some x.e_end
due_e now release x e = rw e refl

pub due_r : (now release : ℕ) (x : Cell) → phase x ≡ 5 → due now release x ≡ Some x.end
due_r now release x e = rw e refl

-- who asks for t, and why
pub data Asks (now release : ℕ) (x : Cell) (t : ℕ) : Type 0 where
  for_release : phase x ≡ 0 → now < release → release ≡ t → Asks now release x t
  for_a : phase x ≡ 2 → x.a_end ≡ t → Asks now release x t
  for_e : phase x ≡ 3 → x.e_end ≡ t → Asks now release x t
  for_r : phase x ≡ 5 → x.end ≡ t → Asks now release x t

pub due_asks : (now release : ℕ) (x : Cell) (t : ℕ) → due now release x ≡ Some t → Asks now release x t
due_asks now release x t h = grind arith
