-- The cores and the bus: who is on a core, who waits and who is in service, and what room each wait has left.
use Rattle.std.proofs.Common.{◌≡◌, ℕ, suc, ◌+◌, ◌<◌, ◌≤◌, true, ◌&&◌, eqb, ltb, Some, None, Option, sym, refl, ap, ◌∙◌, arith}
use Rattle.argument.specs.Logs.{Turn, A, R, joined, granted, ended}
use Rattle.argument.specs.Plans.{Plan}
use Rattle.argument.specs.Sums.{sum, on}
use Rattle.bridge.proofs.Cells.{phase, at, at_some, Later, joined_same, granted_new, ended_now}
use Rattle.bridge.specs.Scripts.{Script, core_at}
use Rattle.bridge.specs.States.{Cell, job_of}
use Rattle.bus.specs.Turns.{Meaning, Joined, Granted, Done}
use Rattle.tasks.specs.Limits.{Within, Limit}
use Rattle.argument.proofs.Sums.{sum_zero, sum_le}
use Rattle.bus.proofs.AtMost.{at_most_self}
use Rattle.bridge.proofs.Sums.{sum_bump}
use Rattle.bridge.proofs.Past.{FitsAt, seen, sight}
use Rattle.bridge.proofs.Rooms.{Room, room_keep, room_fall, room_fresh, room_served, room_within}

-- turn y of j was granted, and ends after J
abbrev pub hit : Script → (ℕ → Cell) → ℕ → Turn → ℕ → ℕ
hit Z f J y j = on (ltb (at y) (phase (f j)) && ltb J (ended y (job_of Z j (f j)))) 1

abbrev pub term : Plan → Script → (ℕ → Cell) → ℕ → ℕ → ℕ → ℕ
term P Z f J b j = on (eqb (core_at P Z j) b) (hit Z f J A j + hit Z f J R j)

abbrev pub count : Plan → Script → (ℕ → Cell) → ℕ → ℕ → ℕ
count P Z f J b = sum Z.size (term P Z f J b)

pub record On (P : Plan) (Z : Script) (f : ℕ → Cell) (c k : ℕ) : Type 0 where
  pub known : k < Z.size
  pub same : core_at P Z k ≡ c
  pub begun : 1 ≤ phase (f k)
  pub going : phase (f k) ≤ 5

pub record Cores (P : Plan) (Z : Script) (f : ℕ → Cell) (has : ℕ → Option ℕ) : Type 0 where
  pub holds : (c k : ℕ) → has c ≡ Some k → On P Z f c k
  pub held : (k : ℕ) → k < Z.size → 1 ≤ phase (f k) → phase (f k) ≤ 5 → has (core_at P Z k) ≡ Some k

-- a job of c that is at a stage
pub record Stands (P : Plan) (Z : Script) (f : ℕ → Cell) (c stage k : ℕ) : Type 0 where
  pub known : k < Z.size
  pub stage_is : phase (f k) ≡ stage
  pub same : core_at P Z k ≡ c

-- what each wait has left of its limits
abbrev pub Rooms : Plan → Script → (ℕ → ℕ → Limit) → (ℕ → Cell) → Meaning → Type 0
Rooms P Z lim f m = (x : Turn) (k b : ℕ) → k < Z.size → phase (f k) ≡ at x → b < P.cores → (b ≡ core_at P Z k → ⊥)
    → Room (count P Z f (joined x (job_of Z k (f k))) b) (m.still (core_at P Z k) b) (lim (core_at P Z k) b)

pub record Bus (P : Plan) (Z : Script) (lim : ℕ → ℕ → Limit) (f : ℕ → Cell) (m : Meaning) : Type 0 where
  pub ports : m.ports ≡ P.cores
  pub limit : (a b : ℕ) → m.limit a b ≡ lim a b
  pub wait_of : (x : Turn) (k : ℕ) → k < Z.size → phase (f k) ≡ at x → m.waits (core_at P Z k) ≡ true
  pub of_wait : (c : ℕ) → m.waits c ≡ true → (x : Turn) × (k : ℕ) × Stands P Z f c (at x) k
  pub serve_of : (x : Turn) (k : ℕ) → k < Z.size → phase (f k) ≡ suc (at x) → m.serves ≡ Some (core_at P Z k)
  pub of_serve : (c : ℕ) → m.serves ≡ Some c → (x : Turn) × (k : ℕ) × Stands P Z f c (suc (at x)) k
  pub room : Rooms P Z lim f m

-- a core has one job at most
pub lone : (P : Plan) (Z : Script) (f : ℕ → Cell) (has : ℕ → Option ℕ) → Cores P Z f has → (j k : ℕ) → j < Z.size → k < Z.size → core_at P Z j ≡ core_at P Z k
    → 1 ≤ phase (f j) → phase (f j) ≤ 5 → 1 ≤ phase (f k) → phase (f k) ≤ 5 → j ≡ k
lone P Z f has h j k a b same s t u v = grind arith

-- ---- who has a service that goes on after now

module _ (P : Plan) (Z : Script) (now : ℕ) (f : ℕ → Cell) (fits : (k : ℕ) → k < Z.size → FitsAt P Z now k (f k)) where
  pub hit_none : (y : Turn) (j : ℕ) → j < Z.size → (phase (f j) ≡ suc (at y) → ⊥) → hit Z f now y j ≡ 0
  hit_none y j l ne = grind arith

  pub term_none : (b j : ℕ) → j < Z.size → ((y : Turn) → core_at P Z j ≡ b → phase (f j) ≡ suc (at y) → ⊥) → term P Z f now b j ≡ 0
  term_none b j l no' = grind (arith, hit_none A j l, hit_none R j l, no' A, no' R)

  pub term_one : (b j : ℕ) → j < Z.size → term P Z f now b j ≤ 1
  term_one b j l = grind arith

  pub count_none : (b : ℕ) → ((y : Turn) (j : ℕ) → j < Z.size → core_at P Z j ≡ b → phase (f j) ≡ suc (at y) → ⊥) → count P Z f now b ≡ 0
  count_none b no' = sum_zero Z.size (term P Z f now b) (λ j l. term_none b j l (λ y. no' y j l))

  pub count_one : (has : ℕ → Option ℕ) → Cores P Z f has → (b : ℕ) → count P Z f now b ≤ 1
  count_one has h b = go (has b) refl
    where
      active : (y : Turn) (j : ℕ) → phase (f j) ≡ suc (at y) → (1 ≤ phase (f j)) × (phase (f j) ≤ 5)
      active y j e = omega (arith, at_some y)

      go : (o : Option ℕ) → has b ≡ o → count P Z f now b ≤ 1
      go None e = omega (arith, count_none b none)
        where
          none : (y : Turn) (j : ℕ) → j < Z.size → core_at P Z j ≡ b → phase (f j) ≡ suc (at y) → ⊥
          none y j l s u =
              let p = h.held j l (active y j u).0 (active y j u).1 in
              let q : has (core_at P Z j) ≡ has b = ap has s in
              let z : ◌≡◌ {A = ℕ} 0 1 = cc in omega arith
      go (Some i) e = omega (
        arith,
        sum_zero Z.size (λ _. 0) (λ k l. refl),
        sum_bump Z.size (λ _. 0) (term P Z f now b) i
            (λ j l ne. omega (arith, term_none b j l (other j l ne)))
            (λ l. term_one b i l),
      )
        where
          other : (j : ℕ) → j < Z.size → (j ≡ i → ⊥) → (y : Turn) → core_at P Z j ≡ b → phase (f j) ≡ suc (at y) → ⊥
          other j l ne y s u =
              let p = h.held j l (active y j u).0 (active y j u).1 in
              let q : has (core_at P Z j) ≡ has b = ap has s in
              ne (cc)

-- ---- one job, q, goes on

module _ (P : Plan) (Z : Script) (lim : ℕ → ℕ → Limit) (now : ℕ) (f g : ℕ → Cell) (later : (j : ℕ) → Later now (f j) (g j))
    (q : ℕ) (known : q < Z.size) (off : (j : ℕ) → (j ≡ q → ⊥) → g j ≡ f j) where
  hit_le : (J : ℕ) (y : Turn) (j : ℕ) → (at y < phase (g j) → at y < phase (f j)) → hit Z g J y j ≤ hit Z f J y j
  hit_le J y j old = grind arith

  term_off : (J b j : ℕ) → (j ≡ q → ⊥) → term P Z g J b j ≤ term P Z f J b j
  term_off J b j ne = rw (off j ne) (omega arith)

  term_le : (J b j : ℕ) → ((y : Turn) → at y < phase (g q) → at y < phase (f q)) → term P Z g J b j ≤ term P Z f J b j
  term_le J b j old = grind (arith, hit_le J A j, hit_le J R j, old A, old R)

  count_le : (J b : ℕ) → ((y : Turn) → at y < phase (g q) → at y < phase (f q)) → count P Z g J b ≤ count P Z f J b
  count_le J b old = sum_le Z.size (term P Z g J b) (term P Z f J b) (λ j l. term_le J b j old)

  -- of another core than q's nothing is new
  count_other : (J b : ℕ) → (b ≡ core_at P Z q → ⊥) → count P Z g J b ≤ count P Z f J b
  count_other J b ne = grind (arith, sum_le Z.size (term P Z g J b) (term P Z f J b))

  -- of q's core one service more at most
  count_more : (x : Turn) → phase (f q) ≡ at x → phase (g q) ≡ suc (at x) → (J b : ℕ) → count P Z g J b ≤ suc (count P Z f J b)
  count_more x s t J b = sum_bump Z.size (term P Z f J b) (term P Z g J b) q (λ j l ne. term_off J b j ne) (λ l. grind (arith, hit_le J A q, hit_le J R q))

  same_at : (j : ℕ) → (j ≡ q → ⊥) → phase (g j) ≡ phase (f j)
  same_at j ne = ap (λ x. phase x) (off j ne)

  -- q joins
  module _ (m n : Meaning) (bus : Bus P Z lim f m) (has : ℕ → Option ℕ) (cores : Cores P Z g has)
      (fits : (k : ℕ) → k < Z.size → FitsAt P Z now k (g k))
      (x : Turn) (was : suc (phase (f q)) ≡ at x) (is : phase (g q) ≡ at x) (J : Joined m (core_at P Z q) n) where
    join_old : (y : Turn) → at y < phase (g q) → at y < phase (f q)
    join_old y l = omega (arith, at_some x, at_some y)

    join_wait_of : (y : Turn) (k : ℕ) → k < Z.size → phase (g k) ≡ at y → n.waits (core_at P Z k) ≡ true
    join_wait_of y k l e = grind (arith, J.waits, J.others (core_at P Z k), bus.wait_of y k l, same_at k)

    join_of_wait : (c : ℕ) → n.waits c ≡ true → (y : Turn) × (k : ℕ) × Stands P Z g c (at y) k
    join_of_wait c w = grind arith

    join_serve_of : (y : Turn) (k : ℕ) → k < Z.size → phase (g k) ≡ suc (at y) → n.serves ≡ Some (core_at P Z k)
    join_serve_of y k l e = grind (arith, J.serves, bus.serve_of y k l, same_at k, at_some)

    join_here : (y : Turn) → phase (g q) ≡ at y → joined y (job_of Z q (g q)) ≡ now
    join_here y e = grind arith

    join_fresh : (b : ℕ) → b < P.cores → (b ≡ core_at P Z q → ⊥) → Room (count P Z g now b) (n.still (core_at P Z q) b) (lim (core_at P Z q) b)
    join_fresh b l ne =
        let one = count_one P Z now g fits has cores b in
        let none : (m.serves ≡ Some b → ⊥) → count P Z g now b ≡ 0 = λ no'. count_none P Z now g fits b (λ y j h s e. no' (sym J.serves ∙ join_serve_of y j h e ∙ ap Some s)) in
        grind (arith, bus.ports, bus.limit (core_at P Z q) b, J.fresh b, room_fresh (count P Z g now b), room_served (count P Z g now b))

    pub bus_join : Bus P Z lim g n
    bus_join = record {
      ports = J.bus.ports ∙ bus.ports;
      limit = λ a b. J.bus.limit a b ∙ bus.limit a b;
      wait_of = join_wait_of;
      of_wait = join_of_wait;
      serve_of = join_serve_of;
      of_serve = of_serve;
      room = room;
    }
      where
        of_serve : (c : ℕ) → n.serves ≡ Some c → (y : Turn) × (k : ℕ) × Stands P Z g c (suc (at y)) k
        of_serve c e = grind (arith, bus.of_serve c, J.serves, same_at, at_some x)

        room : Rooms P Z lim g n
        room y k b l e h ne = grind (
          arith,
          off k,
          join_here y,
          join_fresh b h,
          room_keep (count P Z g (joined y (job_of Z k (f k))) b) (count P Z f (joined y (job_of Z k (f k))) b),
          count_le (joined y (job_of Z k (f k))) b join_old,
          J.kept (core_at P Z k) b,
          bus.wait_of y k l,
          bus.room y k b l,
        )

  -- q is granted
  module _ (m n : Meaning) (bus : Bus P Z lim f m) (has : ℕ → Option ℕ) (cores : Cores P Z f has)
      (x : Turn) (was : phase (f q) ≡ at x) (is : phase (g q) ≡ suc (at x)) (G : Granted m (core_at P Z q) n) where
    grant_other : (y : Turn) (k : ℕ) → k < Z.size → phase (g k) ≡ at y → (k ≡ q → ⊥) × (phase (f k) ≡ at y) × (core_at P Z k ≡ core_at P Z q → ⊥)
    grant_other y k l e = grind arith

    grant_wait_of : (y : Turn) (k : ℕ) → k < Z.size → phase (g k) ≡ at y → n.waits (core_at P Z k) ≡ true
    grant_wait_of y k l e =
        let o = grant_other y k l e in
        G.others (core_at P Z k) o.2 ∙ bus.wait_of y k l o.1

    pub bus_grant : Bus P Z lim g n
    bus_grant = record {
      ports = G.bus.ports ∙ bus.ports;
      limit = λ a b. G.bus.limit a b ∙ bus.limit a b;
      wait_of = grant_wait_of;
      of_wait = of_wait;
      serve_of = serve_of;
      of_serve = λ c e. (x, q, record { known = known; stage_is = is; same = (let u = G.serves in cc) });
      room = room;
    }
      where
        of_wait : (c : ℕ) → n.waits c ≡ true → (y : Turn) × (k : ℕ) × Stands P Z g c (at y) k
        of_wait c w = grind (arith, bus.of_wait c, G.others c, G.leaves, same_at)

        serve_of : (y : Turn) (k : ℕ) → k < Z.size → phase (g k) ≡ suc (at y) → n.serves ≡ Some (core_at P Z k)
        serve_of y k l e = grind (arith, G.serves, G.unserved, bus.serve_of y k l, same_at k)

        room : Rooms P Z lim g n
        room y k b l e h ne =
            let o = grant_other y k l e in
            let w = grant_wait_of y k l e in
            grind (
              arith,
              off k o.0,
              room_fall (count P Z g (joined y (job_of Z k (f k))) b) (count P Z f (joined y (job_of Z k (f k))) b),
              room_keep (count P Z g (joined y (job_of Z k (f k))) b) (count P Z f (joined y (job_of Z k (f k))) b),
              count_more x was is (joined y (job_of Z k (f k))) b,
              count_other (joined y (job_of Z k (f k))) b,
              G.falls (core_at P Z k) w,
              G.kept (core_at P Z k) b w,
              bus.room y k b l o.1 h ne,
            )

    seen_hit : (S J : ℕ) (y : Turn) (j : ℕ) → (j ≡ q → ⊥) → seen Z g S J y j ≤ hit Z f J y j
    seen_hit S J y j ne = grind arith

    sight_count : (S J b : ℕ) → (b ≡ core_at P Z q → ⊥) → sight P Z g S J b ≤ count P Z f J b
    sight_count S J b ne = grind (arith, sum_le Z.size (λ j. on (eqb (core_at P Z j) b) (seen Z g S J A j + seen Z g S J R j)) (term P Z f J b), seen_hit S J A, seen_hit S J R)

    -- the wait is over, and kept its limits
    pub grant_kept : (y : Turn) (k b : ℕ) → k < Z.size → b < P.cores → (b ≡ core_at P Z k → ⊥) → phase (f k) ≤ at y → at y < phase (g k)
        → Within ((lim (core_at P Z k) b)) (sight P Z g (granted y (job_of Z k (g k))) (joined y (job_of Z k (g k))) b)
    grant_kept y k b l h ne s t =
        let u : k ≡ q = grind arith in
        grind (arith, joined_same Z q (later q) y, sight_count (granted y (job_of Z q (g q))) (joined y (job_of Z q (f q))) b, bus.room y q b known, room_within (sight P Z g (granted y (job_of Z q (g q))) (joined y (job_of Z q (f q))) b) (count P Z f (joined y (job_of Z q (f q))) b))

    -- no other turn goes on
    pub grant_alone : ((k : ℕ) → k < Z.size → FitsAt P Z now k (f k)) → (u v : Turn) (j k : ℕ) → j < Z.size → k < Z.size → (j ≡ k → ⊥)
        → phase (f k) ≤ at v → at v < phase (g k) → at u < phase (g j) → ended u (job_of Z j (g j)) ≤ granted v (job_of Z k (g k))
    grant_alone fits u v j k a b ne s t w =
        let e : k ≡ q = grind arith in
        grind (arith, granted_new Z k (later k) v, ended_now Z j (fits j a) u, bus.serve_of u j a, off j)

  -- q's service ends
  module _ (m n : Meaning) (bus : Bus P Z lim f m) (has : ℕ → Option ℕ) (cores : Cores P Z f has)
      (x : Turn) (was : phase (f q) ≡ suc (at x)) (is : phase (g q) ≡ suc (suc (at x))) (D : Done m n) where
    done_other : (y : Turn) (k : ℕ) → phase (g k) ≡ at y → (k ≡ q → ⊥) × (phase (f k) ≡ at y)
    done_other y k e = grind arith

    pub bus_done : Bus P Z lim g n
    bus_done = record {
      ports = D.bus.ports ∙ bus.ports;
      limit = λ a b. D.bus.limit a b ∙ bus.limit a b;
      wait_of = λ y k l e. D.waits (core_at P Z k) ∙ bus.wait_of y k l (done_other y k e).1;
      of_wait = of_wait;
      serve_of = serve_of;
      of_serve = λ c e. (let u = D.serves in let z : ◌≡◌ {A = ℕ} 0 1 = cc in absurd (omega arith));
      room = room;
    }
      where
        of_wait : (c : ℕ) → n.waits c ≡ true → (y : Turn) × (k : ℕ) × Stands P Z g c (at y) k
        of_wait c w = grind (arith, bus.of_wait c, D.waits c, same_at, at_some x)

        serve_of : (y : Turn) (k : ℕ) → k < Z.size → phase (g k) ≡ suc (at y) → n.serves ≡ Some (core_at P Z k)
        serve_of y k l e = grind (arith, bus.serve_of y k l, bus.serve_of x q known was, lone P Z f has cores k q l known, same_at k, at_some x, at_some y)

        room : Rooms P Z lim g n
        room y k b l e h ne =
            let o = done_other y k e in
            rw (ap (λ c. joined y (job_of Z k c)) (off k o.0), D.still (core_at P Z k) b)
            (room_keep (count P Z g (joined y (job_of Z k (f k))) b) (count P Z f (joined y (job_of Z k (f k))) b) (m.still (core_at P Z k) b) (m.still (core_at P Z k) b) (lim (core_at P Z k) b)
            (count_le (joined y (job_of Z k (f k))) b (λ z v. omega (arith, at_some x, at_some z)))
            (at_most_self (m.still (core_at P Z k) b))
            (bus.room y k b l o.1 h ne))
