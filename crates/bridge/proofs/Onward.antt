-- What a moment does to every job: it goes on, and nothing that was due is still due.
use Rattle.std.proofs.Common.{◌≡◌, ℕ, zero, suc, ◌<◌, ◌≤◌, cond, eqb, List, ◌∷◌, Some, None, Option, refl, arith}
use Rattle.std.proofs.lemmas.Bool.{cond_both, eqb-true, eqb-false}
use Rattle.argument.specs.Plans.{Plan, SoundPlan}
use Rattle.argument.specs.Sums.{any}
use Rattle.bridge.proofs.Allowed.{Allowed}
use Rattle.bridge.proofs.Cells.{phase, put_all, Later, later_same}
use Rattle.bridge.proofs.Kept.{Keeps}
use Rattle.bridge.specs.Moments.{started, fetching, executing, executed, returning, returned, end_a, end_r, finish_at, finishes, join_a, join_r, act_at, acts, serving, waits_now, grant_a, grant_r, grant_at, granting, moment}
use Rattle.bridge.specs.Scripts.{Script}
use Rattle.bridge.specs.States.{Cell, State, put}
use Rattle.bus.specs.Courses.{Event, joins, grants, ends}
use Rattle.bus.specs.Turns.{Meaning}
use Rattle.bridge.proofs.Moves.{put_later, Good}
use Rattle.bridge.proofs.Left.{left}
use Rattle.bridge.proofs.Steps.{ready_parts, finishes_keep, acts_keep, unasked, asked_of, fine_acts, fine_finishes}

-- ---- cells grow

abbrev pub Grows : Cell → Cell → Type 0
Grows x y = Later 0 x y

pub grows_on : (x y z : Cell) → Grows x y → Grows y z → Grows x z
grows_on x y z a b = omega arith

-- no phase of x ends now
abbrev pub Served : ℕ → Cell → Type 0
Served now x = (phase x ≡ 2 → x.a_end ≡ now → ⊥) × (phase x ≡ 5 → x.end ≡ now → ⊥)

abbrev pub Ran : ℕ → Cell → Type 0
Ran now x = phase x ≡ 3 → x.e_end ≡ now → ⊥

-- Q holds of the job of each core below n
abbrev pub All : (ℕ → Cell → Type 0) → ℕ → State → Type 0
All Q n S = (c : ℕ) → c < n → (k : ℕ) → S.has c ≡ Some k → Q S.now (S.cell k)

all_go : (Q : ℕ → Cell → Type 0) (n : ℕ) (S : State) (k : ℕ) (y : Cell) (es : List Event) → Q S.now y → All Q n S
    → All Q n (record { now = S.now; cell = put S.cell k y; has = S.has; events = es })
all_go Q n S k y es h i = grind arith

served_finish : (n : ℕ) (S : State) → All Served n S → (o : Option ℕ) → S.has n ≡ o → All Served (suc n) (finish_at S n o)
served_finish n S h o i = grind arith

served_finishes : (n : ℕ) (S : State) → All Served n (finishes n S)
served_finishes zero S = grind arith
served_finishes (suc n) S = served_finish n (finishes n S) (served_finishes n S) ((finishes n S).has n) refl

served_act : (P : Plan) (Z : Script) (N n : ℕ) (S : State) → All Served N S → (o : Option ℕ) → All Served N (act_at P Z S n o)
served_act P Z N n S h o = grind arith

served_acts : (P : Plan) (Z : Script) (N n : ℕ) (S : State) → All Served N S → All Served N (acts P Z n S)
served_acts P Z N zero S all = all
served_acts P Z N (suc n) S all = served_act P Z N n (acts P Z n S) (served_acts P Z N n S all) ((acts P Z n S).has n)

ran_act : (P : Plan) (Z : Script) (n : ℕ) (S : State) → All Ran n S → (o : Option ℕ) → S.has n ≡ o → All Ran (suc n) (act_at P Z S n o)
ran_act P Z n S h o i = grind arith

ran_acts : (P : Plan) (Z : Script) (n : ℕ) (S : State) → All Ran n (acts P Z n S)
ran_acts P Z zero S = grind arith
ran_acts P Z (suc n) S = ran_act P Z n (acts P Z n S) (ran_acts P Z n S) ((acts P Z n S).has n) refl

-- ---- a moment brings jobs on

module _ (P : Plan) (Z : Script) (sound : SoundPlan P) (ok : Allowed P Z) (m₀ : Meaning) where
  abbrev pub Kept : State → Type 0
  Kept S = (l : Meaning) × Keeps m₀ S.events l

  pub record Onward (S T : State) : Type 0 where
    pub now : T.now ≡ S.now
    pub grows : (j : ℕ) → Grows (S.cell j) (T.cell j)
    pub kept : (m : Meaning) → Keeps m₀ T.events m → Kept S
    pub less : (j : ℕ) → left S.now (Z.row j) (T.cell j) ≤ left S.now (Z.row j) (S.cell j)

  onward_same : (S : State) → Onward S S
  onward_same S = record { now = refl; grows = λ j. later_same 0 (S.cell j); kept = λ m kp. (m, kp); less = λ j. omega arith }

  onward_on : (S T U : State) → Onward S T → Onward T U → Onward S U
  onward_on S T U a b = grind arith

  onward_put : (S : State) (k : ℕ) (y : Cell) (h : ℕ → Option ℕ) (e : Event) → Grows (S.cell k) y → left S.now (Z.row k) y ≤ left S.now (Z.row k) (S.cell k)
      → Onward S (record { now = S.now; cell = put S.cell k y; has = h; events = e ∷ S.events })
  onward_put S k y h e g l = record {
    now = refl;
    grows = put_later 0 S.cell k y g;
    kept = λ m kp. (kp.0, kp.1);
    less = put_all (λ j x. left S.now (Z.row j) x ≤ left S.now (Z.row j) (S.cell j)) S.cell k y (λ j ne. omega arith) l;
  }

  onward_finishes : (n : ℕ) (S : State) → Onward S (finishes n S)
  onward_finishes n S = finishes_keep (Onward S)
      (λ T c k e p z o. onward_on S T (end_a T k) o
      (onward_put T k (executing (T.cell k)) T.has ends (omega arith) (grind arith)))
      (λ T c k e p z o. onward_on S T (end_r T c k) o
      (onward_put T k (returned (T.cell k)) (put T.has c None) ends (omega arith) (grind arith)))
      n S (onward_same S)

  onward_acts : (n : ℕ) (S : State) → Onward S (acts P Z n S)
  onward_acts n S = acts_keep P Z (Onward S)
      (λ T c k e h o.
      let u = (ready_parts P Z T c k h.1).unstarted in
      onward_on S T (join_a T c k) o
      (onward_put T k (started T.now (T.cell k)) (put T.has c (Some k)) (joins c) (omega arith) (grind arith)))
      (λ T c k e p z o. onward_on S T (join_r T c k) o
      (onward_put T k (executed (T.cell k)) T.has (joins c) (omega arith) (grind arith)))
      n S (onward_same S)

  -- after a moment
  pub record After (S T : State) : Type 0 where
    pub onward : Onward S T
    pub served : All Served P.cores T
    pub ran : All Ran P.cores T

  after_granting : (p : ℕ) (S : State) → Good P Z ok m₀ S → All Served P.cores S → All Ran P.cores S
      → (m : Meaning) → Keeps m₀ (granting P Z p S).events m → After S (granting P Z p S)
  after_granting p S good served ran =
      cond_both (any P.cores (λ c. serving S (S.has c))) S (cond (any P.cores (λ c. waits_now S (S.has c))) (grant_at Z S p (S.has p)) S) Q
      (λ _. stays)
      (λ _. cond_both (any P.cores (λ c. waits_now S (S.has c))) (grant_at Z S p (S.has p)) S Q (λ _. go (S.has p) refl) (λ _. stays))
    where
      Q : State → Type 0
      Q T = (m : Meaning) → Keeps m₀ T.events m → After S T

      stays : Q S
      stays = grind arith

      go : (o : Option ℕ) → S.has p ≡ o → Q (grant_at Z S p o)
      go None e = λ m kp. absurd (unasked P Z sound ok m₀ S p good e m kp)
      go (Some k) e = cond_both (eqb (phase (S.cell k)) 1) (grant_a Z S p k) (grant_r Z S p k) Q
          (λ t m kp.
          let q = asked_of P Z sound ok m₀ S p k good e m kp in
          let u = eqb-true _ _ t in
          let s = ok.some_a k q.0 in
          let y = fetching S.now (Z.row k).a (Z.row k).e (S.cell k) in
          record {
            onward = onward_put S k y S.has (grants p) (omega arith) (grind arith);
            served = all_go Served P.cores S k y (grants p ∷ S.events) (λ i j. omega arith, λ i. absurd (omega arith)) served;
            ran = all_go Ran P.cores S k y (grants p ∷ S.events) (λ i. absurd (omega arith)) ran;
          })
          (λ t m kp.
          let q = asked_of P Z sound ok m₀ S p k good e m kp in
          let u = eqb-false _ _ t in
          let v = q.1 in
          let s = ok.some_r k q.0 in
          let y = returning S.now (Z.row k).r (S.cell k) in
          record {
            onward = onward_put S k y S.has (grants p) (omega arith) (grind arith);
            served = all_go Served P.cores S k y (grants p ∷ S.events) (λ i. absurd (omega arith), λ i j. omega arith) served;
            ran = all_go Ran P.cores S k y (grants p ∷ S.events) (λ i. absurd (omega arith)) ran;
          })

  pub after_moment : (p : ℕ) (S : State) → Good P Z ok m₀ S → (m : Meaning) → Keeps m₀ (moment P Z p S).events m → After S (moment P Z p S)
  after_moment p S good m kp =
      let T = finishes P.cores S in
      let U = acts P Z P.cores T in
      let a = after_granting p U (fine_acts P Z sound ok m₀ P.cores T (fine_finishes P Z sound ok m₀ P.cores S good))
      (served_acts P Z P.cores P.cores T (served_finishes P.cores S)) (ran_acts P Z P.cores T) m kp in
      record {
        onward = onward_on S U (moment P Z p S) (onward_on S T U (onward_finishes P.cores S) (onward_acts P.cores T)) a.onward;
        served = a.served;
        ran = a.ran;
      }
