-- The steps of a moment, and the way to the next.
use Rattle.std.proofs.Common.{◌≡◌, ℕ, zero, suc, ◌<◌, ◌≤◌, Bool, true, false, cond, eqb, ◌⊎◌, ◌∷◌, Some, None, Option, refl, ap, ◌∙◌, inl, inr, arith}
use Rattle.std.proofs.lemmas.Bool.{cases_eq, cases_lt, both_ways, cond_both, eqb-true}
use Rattle.argument.specs.Logs.{Turn, A, R, joined, granted, ended}
use Rattle.argument.specs.Plans.{Plan, SoundPlan}
use Rattle.argument.specs.Sums.{any}
use Rattle.bridge.proofs.Allowed.{Allowed}
use Rattle.bridge.proofs.Cells.{phase, at, at_some, fits_on, granted_now}
use Rattle.bridge.proofs.Due.{due, moved_to, due_release, due_a, due_e, due_r}
use Rattle.bridge.proofs.Kept.{Keeps}
use Rattle.bridge.specs.Moments.{fetching, returning, end_a, end_r, finish_at, finishes, ready, ahead, better, first, join_r, begin_at, act_at, acts, serving, waits_now, grant_a, grant_r, grant_at, granting, moment, join_a}
use Rattle.bridge.specs.Scripts.{Script, task_at, core_at}
use Rattle.bridge.specs.States.{Cell, State, job_of, put}
use Rattle.bus.specs.Courses.{grants}
use Rattle.bus.specs.Turns.{Meaning, Granted}
use Rattle.bridge.proofs.Past.{Begun, Held, Carry}
use Rattle.bridge.proofs.Bus.{Cores, lone}
use Rattle.argument.proofs.Exchange.{any_true, any_from}
use Rattle.bridge.proofs.Moves.{Inv, Good, Chosen, good_end_a, good_end_r, good_join_a, good_join_r, good_grant_a, good_grant_r}

-- ---- who goes first

abbrev pub Ranked : Plan → Script → ℕ → ℕ → Type 0
Ranked P Z j k = ((task_at P Z j).rank < (task_at P Z k).rank) ⊎ (((task_at P Z j).rank ≡ (task_at P Z k).rank) × ((Z.row j).release ≤ (Z.row k).release))

ahead_true : (P : Plan) (Z : Script) (j k : ℕ) → ahead P Z j k ≡ true → Ranked P Z j k
ahead_true P Z j k e = grind arith

ahead_false : (P : Plan) (Z : Script) (j k : ℕ) → ahead P Z j k ≡ false → Ranked P Z k j
ahead_false P Z j k e = grind arith

ranked_self : (P : Plan) (Z : Script) (j k : ℕ) → j ≡ k → Ranked P Z j k
ranked_self P Z j k e = inr (ap (λ i. (task_at P Z i).rank) e, omega (arith, ap (λ i. (Z.row i).release) e))

pub record Ready (P : Plan) (Z : Script) (S : State) (c k : ℕ) : Type 0 where
  pub same : core_at P Z k ≡ c
  pub released : (Z.row k).release ≤ S.now
  pub unstarted : phase (S.cell k) ≡ 0

pub ready_parts : (P : Plan) (Z : Script) (S : State) (c k : ℕ) → ready P Z S c k ≡ true → Ready P Z S c k
ready_parts P Z S c k e = grind arith

pub ready_from : (P : Plan) (Z : Script) (S : State) (c k : ℕ) → Ready P Z S c k → ready P Z S c k ≡ true
ready_from P Z S c k r = grind arith

abbrev pub FirstOf : Plan → Script → State → ℕ → ℕ → Option ℕ → Type 0
FirstOf P Z S c n None = (k : ℕ) → k < n → ready P Z S c k ≡ true → ⊥
FirstOf P Z S c n (Some j) = (j < n) × (ready P Z S c j ≡ true) × ((k : ℕ) → k < n → ready P Z S c k ≡ true → Ranked P Z j k)

pub first_of : (P : Plan) (Z : Script) (S : State) (c n : ℕ) → FirstOf P Z S c n (first P Z S c n)
first_of P Z S c zero = λ k l e. omega arith
first_of P Z S c (suc n) = go (ready P Z S c n) refl (first P Z S c n) (first_of P Z S c n)
  where
    go : (b : Bool) → ready P Z S c n ≡ b → (o : Option ℕ) → FirstOf P Z S c n o → FirstOf P Z S c (suc n) (cond b (better P Z o n) o)
    go false e None h = λ k l r. elim (cases_eq k n) [ inl u ↦ grind (arith, ap (ready P Z S c) u) | inr u ↦ h k (omega arith) r ]
    go false e (Some j) h = (
      omega (arith, h.0),
      h.1,
      λ k l r. elim (cases_eq k n) [ inl u ↦ grind (arith, ap (ready P Z S c) u) | inr u ↦ h.2 k (omega arith) r ],
    )
    go true e None h = (omega arith, e, λ k l r. elim (cases_eq n k) [ inl u ↦ ranked_self P Z n k u | inr u ↦ absurd (h k (omega arith) r) ])
    go true e (Some j) h = grind (arith, ahead_true P Z j n, ahead_false P Z j n)

-- ---- who waits, and who is in service

pub serving_true : (S : State) (o : Option ℕ) → serving S o ≡ true → (x : Turn) × (k : ℕ) × (o ≡ Some k) × (phase (S.cell k) ≡ suc (at x))
serving_true S o e = grind arith

pub serving_from : (S : State) (x : Turn) (k : ℕ) → phase (S.cell k) ≡ suc (at x) → serving S (Some k) ≡ true
serving_from S x k e = grind arith

pub waiting_true : (S : State) (o : Option ℕ) → waits_now S o ≡ true → (x : Turn) × (k : ℕ) × (o ≡ Some k) × (phase (S.cell k) ≡ at x)
waiting_true S o e = grind arith

pub waiting_from : (S : State) (x : Turn) (k : ℕ) → phase (S.cell k) ≡ at x → waits_now S (Some k) ≡ true
waiting_from S x k e = grind arith

module _ (P : Plan) (Z : Script) (sound : SoundPlan P) (ok : Allowed P Z) (S : State) (cores : Cores P Z S.cell S.has) where
  pub any_serving : (x : Turn) (k : ℕ) → k < Z.size → phase (S.cell k) ≡ suc (at x) → any P.cores (λ c. serving S (S.has c)) ≡ true
  any_serving x k l e =
      any_from P.cores (λ c. serving S (S.has c)) (core_at P Z k) (sound.placed (Z.row k).task (ok.known k l))
      (ap (serving S) (cores.held k l (omega (arith, at_some x)) (omega (arith, at_some x))) ∙ serving_from S x k e)

  pub any_waiting : (x : Turn) (k : ℕ) → k < Z.size → phase (S.cell k) ≡ at x → any P.cores (λ c. waits_now S (S.has c)) ≡ true
  any_waiting x k l e =
      any_from P.cores (λ c. waits_now S (S.has c)) (core_at P Z k) (sound.placed (Z.row k).task (ok.known k l))
      (ap (waits_now S) (cores.held k l (omega (arith, at_some x)) (omega (arith, at_some x))) ∙ waiting_from S x k e)

-- ---- what each way on keeps, the steps keep

module _ (Q : State → Type 0)
    (on_end_a : (S : State) (c k : ℕ) → S.has c ≡ Some k → phase (S.cell k) ≡ 2 → (S.cell k).a_end ≡ S.now → Q S → Q (end_a S k))
    (on_end_r : (S : State) (c k : ℕ) → S.has c ≡ Some k → phase (S.cell k) ≡ 5 → (S.cell k).end ≡ S.now → Q S → Q (end_r S c k)) where
  pub finish_keeps : (S : State) (c : ℕ) → Q S → (o : Option ℕ) → S.has c ≡ o → Q (finish_at S c o)
  finish_keeps S c q o e = grind (arith, on_end_a S c, on_end_r S c)

  pub finishes_keep : (n : ℕ) (S : State) → Q S → Q (finishes n S)
  finishes_keep zero S q = q
  finishes_keep (suc n) S q = finish_keeps (finishes n S) n (finishes_keep n S q) ((finishes n S).has n) refl

module _ (P : Plan) (Z : Script) (Q : State → Type 0)
    (on_join_a : (S : State) (c k : ℕ) → S.has c ≡ None → FirstOf P Z S c Z.size (Some k) → Q S → Q (join_a S c k))
    (on_join_r : (S : State) (c k : ℕ) → S.has c ≡ Some k → phase (S.cell k) ≡ 3 → (S.cell k).e_end ≡ S.now → Q S → Q (join_r S c k)) where
  pub act_keeps : (S : State) (c : ℕ) → Q S → (o : Option ℕ) → S.has c ≡ o → Q (act_at P Z S c o)
  act_keeps S c q o e = grind (arith, first_of P Z S c Z.size)

  pub acts_keep : (n : ℕ) (S : State) → Q S → Q (acts P Z n S)
  acts_keep zero S q = q
  acts_keep (suc n) S q = act_keeps (acts P Z n S) n (acts_keep n S q) ((acts P Z n S).has n) refl

-- ---- the steps

module _ (P : Plan) (Z : Script) (sound : SoundPlan P) (ok : Allowed P Z) (m₀ : Meaning) where
  abbrev pub Fine : State → Type 0
  Fine S = Good P Z ok m₀ S

  chosen : (S : State) (c k : ℕ) → FirstOf P Z S c Z.size (Some k) → Chosen P Z ok m₀ S c k
  chosen S c k h = grind arith

  pub fine_finish : (S : State) (c : ℕ) → Fine S → (o : Option ℕ) → S.has c ≡ o → Fine (finish_at S c o)
  fine_finish = finish_keeps Fine (good_end_a P Z ok m₀) (good_end_r P Z ok m₀)

  pub fine_finishes : (n : ℕ) (S : State) → Fine S → Fine (finishes n S)
  fine_finishes = finishes_keep Fine (good_end_a P Z ok m₀) (good_end_r P Z ok m₀)

  pub fine_act : (S : State) (c : ℕ) → Fine S → (o : Option ℕ) → S.has c ≡ o → Fine (act_at P Z S c o)
  fine_act = act_keeps P Z Fine (λ S c k e h. good_join_a P Z ok m₀ S c k e (chosen S c k h)) (good_join_r P Z ok m₀)

  pub fine_acts : (n : ℕ) (S : State) → Fine S → Fine (acts P Z n S)
  fine_acts = acts_keep P Z Fine (λ S c k e h. good_join_a P Z ok m₀ S c k e (chosen S c k h)) (good_join_r P Z ok m₀)

  -- a core below n without a job has no ready job
  abbrev pub Acted : ℕ → State → Type 0
  Acted n S = (c : ℕ) → c < n → S.has c ≡ None → (k : ℕ) → k < Z.size → Ready P Z S c k → ⊥

  unput : (S : State) (k : ℕ) (y : Cell) → 1 ≤ phase y → (j : ℕ) → phase (put S.cell k y j) ≡ 0 → phase (S.cell j) ≡ 0
  unput S k y h j e = grind arith

  acted_act : (n : ℕ) (S : State) → Acted n S → (o : Option ℕ) → S.has n ≡ o → Acted (suc n) (act_at P Z S n o)
  acted_act n S h o e = grind (arith, first_of, ready_from)

  pub acted : (n : ℕ) (S : State) → Acted n (acts P Z n S)
  acted zero S = grind arith
  acted (suc n) S = acted_act n (acts P Z n S) (acted n S) ((acts P Z n S).has n) refl

  -- if a job waits, a service goes on
  abbrev pub Busy : State → Type 0
  Busy S = (m : Meaning) → Keeps m₀ S.events m → (x : Turn) (k : ℕ) → k < Z.size → phase (S.cell k) ≡ at x
      → (y : Turn) × (j : ℕ) × (j < Z.size) × (phase (S.cell j) ≡ suc (at y))

  pub record Settled (S : State) : Type 0 where
    pub fine : Fine S
    pub acted : Acted P.cores S
    pub busy : Busy S

  -- the port that is granted has a job that waits
  pub asked : (S : State) (p : ℕ) → Fine S → (l n : Meaning) → Keeps m₀ S.events l → Granted l p n → (x : Turn) × (k : ℕ) × (S.has p ≡ Some k) × (phase (S.cell k) ≡ at x) × (k < Z.size)
  asked S p good l n kp G = grind arith

  pub unasked : (S : State) (p : ℕ) → Fine S → S.has p ≡ None → (n : Meaning) → Keeps m₀ (grants p ∷ S.events) n → ⊥
  unasked S p good e n kp = let a = asked S p good kp.0 n kp.1 kp.2 in grind arith

  pub asked_of : (S : State) (p k : ℕ) → Fine S → S.has p ≡ Some k → (n : Meaning) → Keeps m₀ (grants p ∷ S.events) n
      → (k < Z.size) × ((phase (S.cell k) ≡ 1) ⊎ (phase (S.cell k) ≡ 4))
  asked_of S p k good e n kp = let a = asked S p good kp.0 n kp.1 kp.2 in grind arith

  settled_grant : (S : State) (p : ℕ) → Fine S → Acted P.cores S → (o : Option ℕ) → S.has p ≡ o → Settled (grant_at Z S p o)
  settled_grant S p good act None e = record {
    fine = λ n kp. absurd (unasked S p good e n kp);
    acted = λ c l f k i r. act c l f k i (record { same = r.same; released = r.released; unstarted = r.unstarted });
    busy = λ n kp. absurd (unasked S p good e n kp);
  }
  settled_grant S p good act (Some k) e =
      cond_both (eqb (phase (S.cell k)) 1) (grant_a Z S p k) (grant_r Z S p k) Settled
      (λ t. record {
        fine = good_grant_a P Z ok m₀ S p k e (eqb-true _ _ t) good;
        acted = λ c l f j i r. act c l f j i (record { same = r.same; released = r.released; unstarted = unput S k (fetching S.now (Z.row k).a (Z.row k).e (S.cell k)) (omega arith) j r.unstarted });
        busy = λ n kp x j i s. (A, k, (asked_of S p k good e n kp).0, grind arith);
      })
      (λ t. record {
        fine = λ n kp. good_grant_r P Z ok m₀ S p k e (let q = (asked_of S p k good e n kp).1 in grind arith) good n kp;
        acted = λ c l f j i r. act c l f j i (record { same = r.same; released = r.released; unstarted = unput S k (returning S.now (Z.row k).r (S.cell k)) (omega arith) j r.unstarted });
        busy = λ n kp x j i s. (R, k, (asked_of S p k good e n kp).0, grind arith);
      })

  pub settled_granting : (p : ℕ) (S : State) → Fine S → Acted P.cores S → Settled (granting P Z p S)
  settled_granting p S good act =
      cond_both (any P.cores (λ c. serving S (S.has c))) S (cond (any P.cores (λ c. waits_now S (S.has c))) (grant_at Z S p (S.has p)) S) Settled
      (λ t. record { fine = good; acted = act; busy = λ m kp x k l s. served (good m kp).cores (any_true _ _ t) })
      (λ _. cond_both (any P.cores (λ c. waits_now S (S.has c))) (grant_at Z S p (S.has p)) S Settled
      (λ _. settled_grant S p good act (S.has p) refl)
      (λ t. record {
        fine = good;
        acted = act;
        busy = λ m kp x k l s. absurd (both_ways (any P.cores (λ c. waits_now S (S.has c))) t (any_waiting P Z sound ok S (good m kp).cores x k l s));
      }))
    where
      served : Cores P Z S.cell S.has → (c : ℕ) × (c < P.cores) × (serving S (S.has c) ≡ true) → (y : Turn) × (j : ℕ) × (j < Z.size) × (phase (S.cell j) ≡ suc (at y))
      served cores z =
          let y = serving_true S (S.has z.0) z.2 in
          (y.0, y.1, (cores.holds z.0 y.1 y.2).known, y.3)

  pub settled_moment : (p : ℕ) (S : State) → Fine S → Settled (moment P Z p S)
  settled_moment p S good =
      let T = finishes P.cores S in
      settled_granting p (acts P Z P.cores T) (fine_acts P.cores T (fine_finishes P.cores S good)) (acted P.cores T)

  -- nothing changes until the next moment
  module _ (S : State) (h : Settled S) (t : ℕ) (m : Meaning) (i : Inv P Z m₀.limit S m) (kp : Keeps m₀ S.events m)
      (least : (k d : ℕ) → k < Z.size → due S.now (Z.row k).release (S.cell k) ≡ Some d → t ≤ d) where
    on_taken : (k u : ℕ) → k < Z.size → S.now ≤ u → u < t → (Z.row k).release ≤ u → Begun S.cell k u ⊎ ((j : ℕ) × Held P Z S.cell (core_at P Z k) u j)
    on_taken k u l a b r =
        elim (cases_lt (phase (S.cell k)) 1) [
          | inr s ↦ inl (record { some = s; from = (let f = i.fits k l in omega (arith, f.begun s)) })
          | inl s ↦ inr (go (S.has (core_at P Z k)) refl (omega arith))
        ]
      where
        ready' : phase (S.cell k) ≡ 0 → Ready P Z S (core_at P Z k) k
        ready' s = grind (arith, least k (Z.row k).release l, due_release S.now (Z.row k).release (S.cell k))

        go : (o : Option ℕ) → S.has (core_at P Z k) ≡ o → phase (S.cell k) ≡ 0 → (j : ℕ) × Held P Z S.cell (core_at P Z k) u j
        go None e s = grind (arith, h.acted (core_at P Z k), sound.placed (Z.row k).task, ok.known k l, ready' s)
        go (Some j) e s = let o = i.cores.holds (core_at P Z k) j e in let f = i.fits j o.known in (j, grind arith)

    due_turn : (y : Turn) (j : ℕ) → phase (S.cell j) ≡ suc (at y) → due S.now (Z.row j).release (S.cell j) ≡ Some (ended y (job_of Z j (S.cell j)))
    due_turn y j h = grind arith

    on_carried : (x : Turn) (k u : ℕ) → k < Z.size → S.now ≤ u → u < t → at x ≤ phase (S.cell k) → joined x (job_of Z k (S.cell k)) ≤ u
        → (at x < phase (S.cell k) → u < granted x (job_of Z k (S.cell k))) → (y : Turn) × (j : ℕ) × Carry P Z S.cell (core_at P Z k) u y j
    on_carried x k u l a b s j g =
        let waits : phase (S.cell k) ≡ at x = grind (arith, granted_now Z k (i.fits k l) x) in
        let z = h.busy m kp x k l waits in
        let y = z.0 in
        let q = z.1 in (
          y,
          q,
          grind (
            arith,
            lone P Z S.cell S.has i.cores q k z.2 l,
            granted_now Z q (i.fits q z.2) y,
            least q (ended y (job_of Z q (S.cell q))) z.2,
            due_turn y q z.3,
            at_some x,
            at_some y,
          ),
        )

    pub on_inv : S.now ≤ t → Inv P Z m₀.limit (moved_to S (Some t)) m
    on_inv after = record {
      fits = λ k l. fits_on (i.fits k l) t after
          (λ e. least k (S.cell k).a_end l (due_a S.now (Z.row k).release (S.cell k) e))
          (λ e. least k (S.cell k).e_end l (due_e S.now (Z.row k).release (S.cell k) e))
          (λ e. least k (S.cell k).end l (due_r S.now (Z.row k).release (S.cell k) e));
      past = record {
        single = i.past.single;
        right = i.past.right;
        kept = i.past.kept;
        alone = i.past.alone;
        taken = λ k u l b r. elim (cases_lt u S.now) [
          | inl v ↦ i.past.taken k u l v r
          | inr v ↦ on_taken k u l v b r
        ];
        carried = λ x k u l b s j g. elim (cases_lt u S.now) [
          | inl v ↦ i.past.carried x k u l v s j g
          | inr v ↦ on_carried x k u l v b s j g
        ];
      };
      cores = i.cores;
      bus = i.bus;
    }
