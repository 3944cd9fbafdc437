-- The six ways on of a job, and what they keep.
use Rattle.std.proofs.Common.{◌≡◌, ℕ, suc, ◌<◌, ◌≤◌, ◌⊎◌, ◌∷◌, Some, None, Option, sym, refl, ap, ◌∙◌, subst, arith}
use Rattle.argument.specs.Logs.{Turn, A, R}
use Rattle.argument.specs.Plans.{Plan}
use Rattle.bridge.proofs.Allowed.{Allowed}
use Rattle.bridge.proofs.Cells.{phase, put_at, put_off, put_all, at, at_some, Later, later_same}
use Rattle.bridge.proofs.Kept.{Keeps}
use Rattle.bridge.specs.Moments.{started, fetching, executing, executed, returning, returned, end_a, end_r, join_a, join_r, grant_a, grant_r}
use Rattle.bridge.specs.Scripts.{Script, core_at}
use Rattle.bridge.specs.States.{Cell, State, put}
use Rattle.bus.specs.Turns.{Meaning, Joined, Granted}
use Rattle.bus.specs.Courses.{grants, ends}
use Rattle.tasks.specs.Limits.{Limit}
use Rattle.bridge.proofs.Past.{FitsAt, Past, New, Begun, Goes, past_more}
use Rattle.bridge.proofs.Bus.{On, Cores, Bus, bus_join, bus_grant, bus_done, grant_kept, grant_alone}

pub record Inv (P : Plan) (Z : Script) (lim : ℕ → ℕ → Limit) (S : State) (m : Meaning) : Type 0 where
  pub fits : (k : ℕ) → k < Z.size → FitsAt P Z S.now k (S.cell k)
  pub past : Past P Z lim S.now S.cell
  pub cores : Cores P Z S.cell S.has
  pub bus : Bus P Z lim S.cell m

-- ---- one cell is put

pub put_later : (now : ℕ) (f : ℕ → Cell) (q : ℕ) (y : Cell) → Later now (f q) y → (j : ℕ) → Later now (f j) (put f q y j)
put_later now f q y l = put_all (λ j x. Later now (f j) x) f q y (λ j ne. later_same now (f j)) l

pub put_fits : (P : Plan) (Z : Script) (now : ℕ) (f : ℕ → Cell) (q : ℕ) (y : Cell) → ((k : ℕ) → k < Z.size → FitsAt P Z now k (f k)) → FitsAt P Z now q y
    → (k : ℕ) → k < Z.size → FitsAt P Z now k (put f q y k)
put_fits P Z now f q y old new = put_all (λ k x. k < Z.size → FitsAt P Z now k x) f q y (λ k ne. old k) (λ l. new)

here : (f : ℕ → Cell) (q : ℕ) (y : Cell) → phase (put f q y q) ≡ phase y
here f q y = ap (λ x. phase x) (put_at f q y)

cores_stay : (P : Plan) (Z : Script) (f : ℕ → Cell) (has : ℕ → Option ℕ) (q : ℕ) (y : Cell) → 1 ≤ phase (f q) → phase (f q) ≤ 5 → 1 ≤ phase y → phase y ≤ 5
    → Cores P Z f has → Cores P Z (put f q y) has
cores_stay P Z f has q y a b c d h = record { holds = λ p k i. grind (arith, h.holds p k i); held = λ k l s t. grind arith }

cores_start : (P : Plan) (Z : Script) (f : ℕ → Cell) (has : ℕ → Option ℕ) (q : ℕ) (y : Cell) (c : ℕ) → q < Z.size → core_at P Z q ≡ c → has c ≡ None → phase y ≡ 1
    → Cores P Z f has → Cores P Z (put f q y) (put has c (Some q))
cores_start P Z f has q y c known same free p h = record { holds = λ d k i. grind (arith, h.holds d k); held = λ k l s t. grind arith }

cores_end : (P : Plan) (Z : Script) (f : ℕ → Cell) (has : ℕ → Option ℕ) (q : ℕ) (y : Cell) (c : ℕ) → has c ≡ Some q → phase y ≡ 6
    → Cores P Z f has → Cores P Z (put f q y) (put has c None)
cores_end P Z f has q y c busy p h = record { holds = λ d k i. grind (arith, h.holds d k, h.holds c q busy); held = λ k l s t. grind arith }

no_fresh : (P : Plan) (Z : Script) (f : ℕ → Cell) (q : ℕ) (y : Cell) → 1 ≤ phase (f q) → (j : ℕ) → j < Z.size → phase (f j) ≡ 0 → 1 ≤ phase (put f q y j) → New P Z (put f q y) j
no_fresh P Z f q y a j l s t = grind arith

no_grant : (f : ℕ → Cell) (q : ℕ) (y : Cell) → ((x : Turn) → phase (f q) ≤ at x → at x < phase y → ⊥) → (x : Turn) (k : ℕ) → phase (f k) ≤ at x → at x < phase (put f q y k) → ⊥
no_grant f q y no' x k s t = grind arith

module _ (P : Plan) (Z : Script) (ok : Allowed P Z) (m₀ : Meaning) where
  abbrev pub Good : State → Type 0
  Good S = (m : Meaning) → Keeps m₀ S.events m → Inv P Z m₀.limit S m

  abbrev Lim : ℕ → ℕ → Limit
  Lim a b = m₀.limit a b

  -- nothing is granted: the past stays as it was
  past_stays : (S : State) (f : ℕ → Cell) (k : ℕ) (y : Cell) → ((j : ℕ) → Later S.now (f j) (put f k y j)) → ((j : ℕ) → j < Z.size → FitsAt P Z S.now j (f j))
      → ((j : ℕ) → j < Z.size → phase (f j) ≡ 0 → 1 ≤ phase (put f k y j) → New P Z (put f k y) j) → ((x : Turn) → phase (f k) ≤ at x → at x < phase y → ⊥)
      → Past P Z Lim S.now f → Past P Z Lim S.now (put f k y)
  past_stays S f k y later fits fresh none = past_more P Z Lim S.now f (put f k y) later fits fresh
      (λ x j b _ _ _ s t. absurd (no_grant f k y none x j s t)) (λ _ v _ j _ _ _ s t _. absurd (no_grant f k y none v j s t))

  -- a service of the job k ends
  module _ (S : State) (c k : ℕ) (e : S.has c ≡ Some k) (x : Turn) (p : phase (S.cell k) ≡ suc (at x)) (y : Cell) (q : phase y ≡ suc (suc (at x)))
      (fit : FitsAt P Z S.now k (S.cell k) → FitsAt P Z S.now k y) (later : Later S.now (S.cell k) y)
      (has : ℕ → Option ℕ) (move : Cores P Z S.cell S.has → Cores P Z (put S.cell k y) has) where
    good_done : Good S → Good (record { now = S.now; cell = put S.cell k y; has = has; events = ends ∷ S.events })
    good_done good n kp =
        record {
          fits = put_fits P Z S.now S.cell k y i.fits (fit (i.fits k o.known));
          past = past_stays S S.cell k y l i.fits (no_fresh P Z S.cell k y o.begun) (λ z s t. omega (arith, at_some x, at_some z)) i.past;
          cores = move i.cores;
          bus = bus_done P Z m₀.limit S.now S.cell (put S.cell k y) l k o.known (put_off S.cell k y) kp.0 n i.bus S.has i.cores x p (here S.cell k y ∙ q) kp.2;
        }
      where
        i : Inv P Z m₀.limit S kp.0
        i = good kp.0 kp.1

        o : On P Z S.cell c k
        o = i.cores.holds c k e

        l : (j : ℕ) → Later S.now (S.cell j) (put S.cell k y j)
        l = put_later S.now S.cell k y later

  pub good_end_a : (S : State) (c k : ℕ) → S.has c ≡ Some k → phase (S.cell k) ≡ 2 → (S.cell k).a_end ≡ S.now → Good S → Good (end_a S k)
  good_end_a S c k e p z = good_done S c k e A p (executing (S.cell k)) refl (λ f. omega arith) (omega arith)
      S.has (cores_stay P Z S.cell S.has k (executing (S.cell k)) (omega arith) (omega arith) (omega arith) (omega arith))

  pub good_end_r : (S : State) (c k : ℕ) → S.has c ≡ Some k → phase (S.cell k) ≡ 5 → (S.cell k).end ≡ S.now → Good S → Good (end_r S c k)
  good_end_r S c k e p z = good_done S c k e R p (returned (S.cell k)) refl (λ f. omega arith) (omega arith)
      (put S.has c None) (cores_end P Z S.cell S.has k (returned (S.cell k)) c e refl)

  -- a turn of the job k is granted
  module _ (S : State) (c k : ℕ) (e : S.has c ≡ Some k) (x : Turn) (p : phase (S.cell k) ≡ at x) (y : Cell) (q : phase y ≡ suc (at x))
      (fit : k < Z.size → FitsAt P Z S.now k (S.cell k) → FitsAt P Z S.now k y) (later : Later S.now (S.cell k) y) where
    good_grant : Good S → Good (record { now = S.now; cell = put S.cell k y; has = S.has; events = grants c ∷ S.events })
    good_grant good n kp =
        record {
          fits = put_fits P Z S.now S.cell k y i.fits (fit o.known (i.fits k o.known));
          past = past_more P Z Lim S.now S.cell g l i.fits (no_fresh P Z S.cell k y o.begun)
              (grant_kept P Z m₀.limit S.now S.cell g l k o.known (put_off S.cell k y) kp.0 n i.bus S.has i.cores x p r G)
              (grant_alone P Z m₀.limit S.now S.cell g l k o.known (put_off S.cell k y) kp.0 n i.bus S.has i.cores x p r G i.fits) i.past;
          cores = cores_stay P Z S.cell S.has k y o.begun o.going (omega arith) (omega (arith, at_some x)) i.cores;
          bus = bus_grant P Z m₀.limit S.now S.cell g l k o.known (put_off S.cell k y) kp.0 n i.bus S.has i.cores x p r G;
        }
      where
        i : Inv P Z m₀.limit S kp.0
        i = good kp.0 kp.1

        o : On P Z S.cell c k
        o = i.cores.holds c k e

        g : ℕ → Cell
        g = put S.cell k y

        l : (j : ℕ) → Later S.now (S.cell j) (g j)
        l = put_later S.now S.cell k y later

        r : phase (g k) ≡ suc (at x)
        r = here S.cell k y ∙ q

        G : Granted kp.0 (core_at P Z k) n
        G = subst (λ p. Granted kp.0 p n) (sym o.same) kp.2

  pub good_grant_a : (S : State) (c k : ℕ) → S.has c ≡ Some k → phase (S.cell k) ≡ 1 → Good S → Good (grant_a Z S c k)
  good_grant_a S c k e p = good_grant S c k e A p (fetching S.now (Z.row k).a (Z.row k).e (S.cell k)) refl
      (λ l f. omega (arith, ok.some_a k l, ok.most_a k l, ok.some_e k l, ok.most_e k l)) (omega arith)

  pub good_grant_r : (S : State) (c k : ℕ) → S.has c ≡ Some k → phase (S.cell k) ≡ 4 → Good S → Good (grant_r Z S c k)
  good_grant_r S c k e p = good_grant S c k e R p (returning S.now (Z.row k).r (S.cell k)) refl
      (λ l f. omega (arith, ok.some_r k l, ok.most_r k l)) (omega arith)

  pub good_join_r : (S : State) (c k : ℕ) → S.has c ≡ Some k → phase (S.cell k) ≡ 3 → (S.cell k).e_end ≡ S.now → Good S → Good (join_r S c k)
  good_join_r S c k e p z good n kp =
      record {
        fits = fits;
        past = past_stays S f k y later i.fits (no_fresh P Z f k y o.begun) (λ x s t. omega (arith, at_some x)) i.past;
        cores = cores;
        bus = bus_join P Z m₀.limit S.now f (put f k y) later k o.known (put_off f k y) kp.0 n i.bus S.has cores fits R (ap suc p) (here f k y)
            (subst (λ p. Joined kp.0 p n) (sym o.same) kp.2);
      }
    where
      i : Inv P Z m₀.limit S kp.0
      i = good kp.0 kp.1

      f : ℕ → Cell
      f = S.cell

      y : Cell
      y = executed (S.cell k)

      o : On P Z f c k
      o = i.cores.holds c k e

      later : (j : ℕ) → Later S.now (f j) (put f k y j)
      later j = grind arith

      fits : (j : ℕ) → j < Z.size → FitsAt P Z S.now j (put f k y j)
      fits j h = grind arith

      cores : Cores P Z (put f k y) S.has
      cores = cores_stay P Z f S.has k y o.begun o.going (omega arith) (omega arith) i.cores

  -- k is ready, and goes before every other ready job of c
  pub record Chosen (S : State) (c k : ℕ) : Type 0 where
    pub known : k < Z.size
    pub same : core_at P Z k ≡ c
    pub released : (Z.row k).release ≤ S.now
    pub unstarted : phase (S.cell k) ≡ 0
    pub goes : (j : ℕ) → j < Z.size → core_at P Z j ≡ c → (Z.row j).release ≤ S.now → phase (S.cell j) ≡ 0 → Goes P Z k j

  pub good_join_a : (S : State) (c k : ℕ) → S.has c ≡ None → Chosen S c k → Good S → Good (join_a S c k)
  good_join_a S c k free o good n kp =
      record {
        fits = fits;
        past = past_stays S f k y later i.fits fresh (λ x s t. omega (arith, at_some x)) i.past;
        cores = cores;
        bus = bus_join P Z m₀.limit S.now f g later k o.known (put_off f k y) kp.0 n i.bus (put S.has c (Some k)) cores fits A (ap suc p) (here f k y)
            (subst (λ p. Joined kp.0 p n) (sym o.same) kp.2);
      }
    where
      i : Inv P Z m₀.limit S kp.0
      i = good kp.0 kp.1

      f : ℕ → Cell
      f = S.cell

      y : Cell
      y = started S.now (S.cell k)

      g : ℕ → Cell
      g = put f k y

      p : phase (f k) ≡ 0
      p = o.unstarted

      later : (j : ℕ) → Later S.now (f j) (g j)
      later j = grind arith

      fits : (j : ℕ) → j < Z.size → FitsAt P Z S.now j (g j)
      fits j h = grind arith

      cores : Cores P Z g (put S.has c (Some k))
      cores = cores_start P Z f S.has k y c o.known o.same free refl i.cores

      start : (g k).start ≡ S.now
      start = ap (λ x. x.start) (put_at f k y)

      clear : (j : ℕ) → j < Z.size → (j ≡ k → ⊥) → core_at P Z j ≡ core_at P Z k → 1 ≤ phase (g j) → (6 ≤ phase (g j)) × ((g j).end ≤ (g k).start)
      clear j l ne same s = grind arith

      chosen : (j : ℕ) → j < Z.size → core_at P Z k ≡ core_at P Z j → (Z.row j).release ≤ (g k).start → Begun g j (g k).start ⊎ Goes P Z k j
      chosen j l same r = grind arith

      fresh : (j : ℕ) → j < Z.size → phase (f j) ≡ 0 → 1 ≤ phase (g j) → New P Z g j
      fresh j l s t = grind arith
