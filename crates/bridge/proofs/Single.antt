-- The arbiter's grants fix the log.
use Rattle.std.proofs.Common.{◌≡◌, ℕ, zero, suc, ◌+◌, ◌-◌, ◌<◌, ◌≤◌, List, [], ◌∷◌, length, get_or, Option, sym, refl, ap, ◌∙◌, subst, inl, inr, arith}
use Rattle.std.proofs.lemmas.Bool.{cases_eq, cases_lt, cases_Bool, cond-true, cond-false}
use Rattle.argument.specs.Sums.{any}
use Rattle.argument.specs.Plans.{Plan, SoundPlan}
use Rattle.bus.specs.Turns.{Meaning, Idle}
use Rattle.bridge.specs.Scripts.{Script}
use Rattle.bridge.specs.Stages.{number}
use Rattle.bridge.specs.States.{Cell, State, job_of, log_of, Complete}
use Rattle.bridge.specs.Moments.{finishes, acts, serving, waits_now, grant_at, granting, moment}
use Rattle.bridge.specs.Runs.{tick, run, grants_of}
use Rattle.bridge.specs.Promises.{AllowedRun, TheLogIsSingle}
use Rattle.bridge.proofs.Allowed.{Allowed, allowed}
use Rattle.bridge.proofs.Kept.{Keeps, keeps}
use Rattle.bridge.proofs.Cells.{phase, later_same}
use Rattle.bridge.proofs.Onward.{Grows, grows_on, after_moment}
use Rattle.bridge.proofs.Steps.{finishes_keep, acts_keep}
use Rattle.bridge.proofs.Ticks.{good_run}

-- ---- only a grant adds to the grants

abbrev pub G : State → List ℕ
G S = grants_of S.events

pub grants_grant : (Z : Script) (S : State) (p : ℕ) (o : Option ℕ) → G (grant_at Z S p o) ≡ p ∷ G S
grants_grant Z S p o = grind arith

-- the cores have acted
abbrev pub Before : Plan → Script → State → State
Before P Z S = acts P Z P.cores (finishes P.cores S)

pub grants_before : (P : Plan) (Z : Script) (S : State) → G (Before P Z S) ≡ G S
grants_before P Z S =
    acts_keep P Z (λ T. G T ≡ G S) (λ T c k e h g. g) (λ T c k e a b g. g) P.cores (finishes P.cores S)
    (finishes_keep (λ T. G T ≡ G S) (λ T c k e a b g. g) (λ T c k e a b g. g) P.cores S refl)

-- a port that is granted is one grant more
grants_more : (P : Plan) (Z : Script) (S : State) (p : ℕ) → granting P Z p (Before P Z S) ≡ grant_at Z (Before P Z S) p ((Before P Z S).has p) → G (moment P Z p S) ≡ p ∷ G S
grants_more P Z S p e = ap G e ∙ grants_grant Z (Before P Z S) p ((Before P Z S).has p) ∙ ap (◌∷◌ p) (grants_before P Z S)

-- either the port does not matter, and nothing is granted, or it is granted
pub data Choice (P : Plan) (Z : Script) (S : State) : Type 0 where
  nobody : ((p : ℕ) → granting P Z p S ≡ S) → Choice P Z S
  somebody : ((p : ℕ) → granting P Z p S ≡ grant_at Z S p (S.has p)) → Choice P Z S

pub choice : (P : Plan) (Z : Script) (S : State) → Choice P Z S
choice P Z S = elim (cases_Bool (any P.cores (λ c. serving S (S.has c)))) [
  | inl e ↦ nobody (λ p. cond-true (any P.cores (λ c. serving S (S.has c))) S _ e)
  | inr e ↦ elim (cases_Bool (any P.cores (λ c. waits_now S (S.has c)))) [
    | inr f ↦ nobody (λ p. cond-false (any P.cores (λ c. serving S (S.has c))) S _ e ∙ cond-false (any P.cores (λ c. waits_now S (S.has c))) (grant_at Z S p (S.has p)) S f)
    | inl f ↦ somebody (λ p. cond-false (any P.cores (λ c. serving S (S.has c))) S _ e ∙ cond-true (any P.cores (λ c. waits_now S (S.has c))) (grant_at Z S p (S.has p)) S f)
  ]
]

-- ---- choices that agree as far as they are used

-- the number of grants so far
abbrev pub many : Plan → Script → List ℕ → ℕ → ℕ
many P Z cs n = length (grants_of (run P Z cs n).events)

module _ (P : Plan) (Z : Script) where
  many_on : (cs : List ℕ) (n : ℕ) → many P Z cs n ≤ many P Z cs (suc n)
  many_on cs n = grind (arith, choice P Z (Before P Z (run P Z cs n)), grants_before, grants_more)

  pub agree : (cs ds : List ℕ) (n : ℕ) → ((i : ℕ) → i < many P Z cs n → get_or cs i 0 ≡ get_or ds i 0) → run P Z cs n ≡ run P Z ds n
  agree cs ds zero h = refl
  agree cs ds (suc n) h = go (agree cs ds n (λ i l. h i (omega (arith, many_on cs n))))
    where
      S : State
      S = run P Z cs n

      p : ℕ
      p = get_or cs (many P Z cs n) 0

      q : ℕ
      q = get_or ds (many P Z cs n) 0

      same : moment P Z p S ≡ moment P Z q S
      same = elim (choice P Z (Before P Z S)) [
        | nobody c ↦ c p ∙ sym (c q)
        | somebody c ↦ ap (λ x. moment P Z x S) (h (many P Z cs n) (rw (grants_more P Z S p (c p)) (omega arith)))
      ]

      go : run P Z cs n ≡ run P Z ds n → run P Z cs (suc n) ≡ run P Z ds (suc n)
      go e = ap tick (same ∙ ap (λ T. moment P Z (get_or ds (length (grants_of T.events)) 0) T) e)

  -- the first choices, the latest first
  abbrev listing : List ℕ → ℕ → List ℕ
  listing cs zero = []
  listing cs (suc n) = get_or cs n 0 ∷ listing cs n

  listed : (cs : List ℕ) (n : ℕ) → grants_of (run P Z cs n).events ≡ listing cs (many P Z cs n)
  listed cs zero = refl
  listed cs (suc n) = go (listed cs n)
    where
      S : State
      S = run P Z cs n

      p : ℕ
      p = get_or cs (many P Z cs n) 0

      go : grants_of S.events ≡ listing cs (many P Z cs n) → grants_of (run P Z cs (suc n)).events ≡ listing cs (many P Z cs (suc n))
      go ih = elim (choice P Z (Before P Z S)) [
        | nobody c ↦ rw (ap G (c p) ∙ grants_before P Z S) ih
        | somebody c ↦ rw (grants_more P Z S p (c p)) (ap (◌∷◌ p) ih)
      ]

  same_listing : (cs ds : List ℕ) (a b : ℕ) → listing cs a ≡ listing ds b → (i : ℕ) → i < a → get_or cs i 0 ≡ get_or ds i 0
  same_listing cs ds zero b e i l = absurd (omega arith)
  same_listing cs ds (suc a) zero e i l = let z : ◌≡◌ {A = ℕ} 0 1 = cc in absurd (omega arith)
  same_listing cs ds (suc a) (suc b) e i l =
      let ab : a ≡ b = lengths (ap length e) in
      elim (cases_eq i a) [
        | inl u ↦ (let h : get_or cs a 0 ≡ get_or ds b 0 = cc in ap (λ j. get_or cs j 0) u ∙ h ∙ ap (λ j. get_or ds j 0) (sym (u ∙ ab)))
        | inr u ↦ (let t : listing cs a ≡ listing ds b = cc in same_listing cs ds a b t i (omega arith))
      ]
    where
      long : (xs : List ℕ) (n : ℕ) → length (listing xs n) ≡ n
      long xs zero = refl
      long xs (suc n) = ap suc (long xs n)

      lengths : length (listing cs (suc a)) ≡ length (listing ds (suc b)) → a ≡ b
      lengths h = omega (arith, long cs a, long ds b)

-- ---- a run that is over stays as it is

module _ (P : Plan) (Z : Script) (sound : SoundPlan P) (ok : Allowed P Z) (m₀ : Meaning) (ports : m₀.ports ≡ P.cores) (idle : Idle m₀) (cs : List ℕ) where
  pub grown : (n d t : ℕ) → t ≡ n + d → (m : Meaning) → Keeps m₀ (run P Z cs t).events m → (j : ℕ) → Grows ((run P Z cs n).cell j) ((run P Z cs t).cell j)
  grown n zero t e m kp j = let u : t ≡ n = omega arith in subst (λ s. Grows ((run P Z cs n).cell j) ((run P Z cs s).cell j)) (sym u) (later_same 0 ((run P Z cs n).cell j))
  grown n (suc d) t e m kp j =
      let u : t ≡ suc (n + d) = omega arith in
      let k = subst (λ s. Keeps m₀ (run P Z cs s).events m) u kp in
      let p = get_or cs (many P Z cs (n + d)) 0 in
      let a = after_moment P Z sound ok m₀ p (run P Z cs (n + d)) (good_run P Z sound ok m₀ ports idle cs (n + d)) m k in
      let z = a.onward.kept m k in
      subst (λ s. Grows ((run P Z cs n).cell j) ((run P Z cs s).cell j)) (sym u)
      (grows_on ((run P Z cs n).cell j) ((run P Z cs (n + d)).cell j) ((run P Z cs (suc (n + d))).cell j)
      (grown n d (n + d) refl z.0 z.1 j) (a.onward.grows j))

pub same_row : (Z : Script) (k : ℕ) (x y : Cell) → phase x ≡ 6 → Grows x y → job_of Z k y ≡ job_of Z k x
same_row Z k x y e g = grind arith

-- the shorter run first
in_order : (plan : Plan) (script : Script) (choices choices' : List ℕ) (n n' : ℕ) (from to from' to' : Meaning) → n ≤ n'
    → AllowedRun plan script choices n from to → Complete script (run plan script choices n)
    → AllowedRun plan script choices' n' from' to'
    → grants_of (run plan script choices n).events ≡ grants_of (run plan script choices' n').events
    → (k : ℕ) → k < script.size → (log_of script (run plan script choices n)).job k ≡ (log_of script (run plan script choices' n')).job k
in_order plan script choices choices' n n' from to from' to' le g whole g' same k l =
    let e = agree plan script choices choices' n
    (same_listing plan script choices choices' (many plan script choices n) (many plan script choices' n')
    (sym (listed plan script choices n) ∙ same ∙ listed plan script choices' n')) in
    let grows = grown plan script g'.sound (allowed plan script g'.lawful) from' g'.ports g'.idle choices' n (n' - n) n' (omega arith) to' (keeps g'.turns) k in
    let six : phase ((run plan script choices n).cell k) ≡ 6 = ap number (whole k l) in
    ap (λ (T : State). job_of script k (T.cell k)) e
    ∙ sym (same_row script k ((run plan script choices' n).cell k) ((run plan script choices' n').cell k) (ap (λ (T : State). phase (T.cell k)) (sym e) ∙ six) grows)

pub the_log_is_single : TheLogIsSingle
the_log_is_single plan script choices choices' n n' from to from' to' g whole g' whole' same k l = grind (arith, in_order)
