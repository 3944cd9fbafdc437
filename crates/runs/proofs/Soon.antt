-- The soonest moment at which something is due.
use Rattle.std.proofs.Common.{◌≡◌, ℕ, zero, suc, ◌<◌, ◌≤◌, min, ◌⊎◌, List, [], ◌∷◌, ◌++◌, length, get_or, Some, None, Option, sym, refl, ap, ◌∙◌, inl, inr, arith}
use Rattle.std.specs.Option.{option_to_list}
use Rattle.std.specs.List.{fold, filter_map, cons_option, reduce}
use Rattle.std.proofs.lemmas.Bool.{cases_lt}
use Rattle.runs.specs.declared.rows.Job.{Job}
use Rattle.runs.specs.declared.rows.LogRow.{LogRow}
use Rattle.runs.specs.declared.stage.Stage.{Stage}
use Rattle.runs.specs.declared.stage.Stage.TheVariants.{Idle}
use Rattle.runs.specs.Machine.{due_of}
use Rattle.runs.specs.Soonest.{soonest, release_of}

-- t is one of the moments
abbrev pub In : ℕ → List ℕ → Type 0
In t [] = ⊥
In t (x ∷ xs) = (x ≡ t) ⊎ In t xs

-- ---- the least of some moments

pub record LeastOf (xs : List ℕ) (t : ℕ) : Type 0 where
  pub least : (y : ℕ) → In y xs → t ≤ y
  pub one : In t xs

least_fold : (a : ℕ) (xs : List ℕ) → LeastOf (a ∷ xs) (fold min a xs)
least_fold a [] = record { least = λ y i. elim i [ inl e ↦ omega arith | inr n ↦ absurd n ]; one = inl refl }
least_fold a (x ∷ xs) =
    let h = least_fold (min a x) xs in
    record {
      least = λ y i. elim i [
        | inl e ↦ omega (arith, h.least (min a x) (inl refl))
        | inr j ↦ elim j [
          | inl e ↦ omega (arith, h.least (min a x) (inl refl))
          | inr k ↦ h.least y (inr k)
        ]
      ];
      one = elim h.one [
        | inl e ↦ elim (cases_lt a x) [
          | inl l ↦ (let m : min a x ≡ a = omega arith in inl (sym m ∙ e))
          | inr l ↦ (let m : min a x ≡ x = omega arith in inr (inl (sym m ∙ e)))
        ]
        | inr k ↦ inr (inr k)
      ];
    }

-- ---- the moments of a list of stages

in_front : (o : Option ℕ) (xs : List ℕ) (t : ℕ) → In t (option_to_list o ++ xs) → (o ≡ Some t) ⊎ In t xs
in_front None xs t i = inr i
in_front (Some d) xs t (inl e) = inl (ap Some e)
in_front (Some d) xs t (inr i) = inr i

front_in : (o : Option ℕ) (xs : List ℕ) (t : ℕ) → o ≡ Some t → In t (option_to_list o ++ xs)
front_in None xs t e = absurd (cc)
front_in (Some d) xs t e = (let u : d ≡ t = cc in inl u)

behind_in : (o : Option ℕ) (xs : List ℕ) (t : ℕ) → In t xs → In t (option_to_list o ++ xs)
behind_in None xs t i = i
behind_in (Some d) xs t i = inr i

cons_in : (o : Option ℕ) (xs : List ℕ) (t : ℕ) → In t xs → In t (cons_option o xs)
cons_in None xs t i = i
cons_in (Some d) xs t i = inr i

in_cons : (o : Option ℕ) (xs : List ℕ) (t : ℕ) → In t (cons_option o xs) → (o ≡ Some t) ⊎ In t xs
in_cons None xs t i = inr i
in_cons (Some d) xs t (inl e) = inl (ap Some e)
in_cons (Some d) xs t (inr i) = inr i

in_ends : (log : List LogRow) (stages : List Stage) (c t : ℕ) → c < length stages → due_of log (get_or stages c Idle) ≡ Some t → In t (filter_map (due_of log) stages)
in_ends log [] c t l e = absurd (omega arith)
in_ends log (s ∷ stages) zero t l e = rw e (inl refl)
in_ends log (s ∷ stages) (suc c) t l e = cons_in (due_of log s) (filter_map (due_of log) stages) t (in_ends log stages c t (omega arith) e)

ends_in : (log : List LogRow) (stages : List Stage) (t : ℕ) → In t (filter_map (due_of log) stages) → (c : ℕ) × (c < length stages) × (due_of log (get_or stages c Idle) ≡ Some t)
ends_in log [] t i = absurd i
ends_in log (s ∷ stages) t i = elim (in_cons (due_of log s) (filter_map (due_of log) stages) t i) [
  | inl e ↦ (zero, omega arith, e)
  | inr j ↦ (let w = ends_in log stages t j in (suc w.0, omega (arith, w.1), w.2))
]

-- ---- what the soonest moment says

module _ (J : List Job) (upto : ℕ) (log : List LogRow) (stages : List Stage) where
  abbrev D : ℕ → Option ℕ
  D c = due_of log (get_or stages c Idle)

  pub record Least (t : ℕ) : Type 0 where
    pub release : (d : ℕ) → release_of J upto ≡ Some d → t ≤ d
    pub ends : (c d : ℕ) → c < length stages → D c ≡ Some d → t ≤ d
    pub found : (release_of J upto ≡ Some t) ⊎ ((c : ℕ) × (c < length stages) × (D c ≡ Some t))

  pub record Nothing : Type 0 where
    pub release : (d : ℕ) → release_of J upto ≡ Some d → ⊥
    pub ends : (c d : ℕ) → c < length stages → D c ≡ Some d → ⊥

  abbrev pub SoonOf : Option ℕ → Type 0
  SoonOf None = Nothing
  SoonOf (Some t) = Least t

  pub soon_of : SoonOf (soonest J upto log stages)
  soon_of = go (option_to_list (release_of J upto) ++ filter_map (due_of log) stages) (front_in (release_of J upto) _) (λ t c l e. behind_in (release_of J upto) _ t (in_ends log stages c t l e)) (in_front (release_of J upto) _)
    where
      go : (xs : List ℕ) → ((t : ℕ) → release_of J upto ≡ Some t → In t xs) → ((t c : ℕ) → c < length stages → D c ≡ Some t → In t xs)
          → ((t : ℕ) → In t xs → (release_of J upto ≡ Some t) ⊎ In t (filter_map (due_of log) stages)) → SoonOf (reduce min xs)
      go [] a b c = record { release = a; ends = λ k d l e. b d k l e }
      go (x ∷ xs) a b c =
          let h = least_fold x xs in
          record {
            release = λ d e. h.least d (a d e);
            ends = λ k d l e. h.least d (b d k l e);
            found = elim (c (fold min x xs) h.one) [ inl e ↦ inl e | inr i ↦ inr (ends_in log stages (fold min x xs) i) ];
          }
