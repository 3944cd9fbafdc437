-- A favour keeps the turn rule if the arbiter below does, meaning by meaning. Assumes nothing.
use Rattle.std.specs.Prelude.{◌≡◌, ℕ, Bool, true, false, cond, Some, None, Option, ◌==◌, ◌≢◌, refl}
use Rattle.std.proofs.Common.{sym, ap, subst, ◌∙◌, inl, inr, arith}
use Rattle.std.proofs.lemmas.Bool.{cases_eq, both_ways, eq-eqb, ne_eqb}
use Rattle.tasks.specs.Limits.{AtMost, more, Limit}
use Rattle.bus.specs.Turns.{Meaning, Wanted, Sound, Proper, Joined, Granted, Done}
use Rattle.bus.proofs.AtMost.{at_most_self}
use Rattle.bus.proofs.Served.{served_fits, served_more, served_less}
use Rattle.favour.specs.declared.Own.{Own}
use Rattle.favour.specs.Account.{favour_meaning, Agrees, OwnJoins, OwnGrants, Notes}

-- the stills of a favour, over those below: u says that the second port is the favoured one, v that the first is
over_kept : (u v : Bool) (w z : Bool) (x y : Limit) → cond v w z ≡ true → (z ≡ true → AtMost x y) → AtMost (cond u None (cond v (Some 0) x)) (cond u None (cond v (Some 0) y))
over_kept u v w z x y p q = grind arith

over_falls : (u v : Bool) (x y : Limit) → v ≡ false → (u ≡ false → AtMost (more x) y) → AtMost (more (cond u None (cond v (Some 0) x))) (cond u None (cond v (Some 1) y))
over_falls u v x y p q = grind arith

over_own : (u v : Bool) (x y : Limit) → v ≡ true → AtMost (cond u None (cond v (Some 0) x)) (cond u None (cond v (Some 1) y))
over_own u v x y p = grind arith

over_own_served : (u v : Bool) (x y : Limit) → v ≡ true → AtMost (more (cond u None (cond v (Some 0) x))) (cond u None (cond v (Some 1) y))
over_own_served u v x y p = grind arith

over_below : (u v : Bool) (x y : Limit) → v ≡ false → (u ≡ false → AtMost x y) → AtMost (cond u None (cond v (Some 0) x)) (cond u None (cond v (Some 1) y))
over_below u v x y p q = grind arith

abbrev with_own : Own → Bool → Option ℕ → Own
with_own o w s = record { port = o.port; waits = w; served = s }

-- ---- a join

own_joined_at : (o : Own) (m : Meaning) → Agrees o m → o.waits ≡ false → (o.served ≢ Some o.port)
    → Joined (favour_meaning o m) o.port (favour_meaning (with_own o true o.served) m) × Agrees (with_own o true o.served) m
own_joined_at o m agrees free unserved =
    let same = eq-eqb o.port o.port refl in (
      record {
        bus = record { ports = refl; limit = λ x y. refl };
        port = agrees.port;
        free = rw same free;
        unserved = unserved;
        waits = rw same refl;
        others = λ q nq. rw (ne_eqb q o.port nq) refl;
        serves = refl;
        kept = λ x y e. at_most_self _;
        fresh = λ b h nb. served_fits o.served b _ _
            (over_own (b == o.port) (o.port == o.port) (m.still o.port b) (m.limit o.port b) same)
            (λ e. over_own_served (b == o.port) (o.port == o.port) (m.still o.port b) (m.limit o.port b) same);
      },
      record { port = agrees.port; unheard = agrees.unheard; served = agrees.served; once = λ e. absurd (unserved e) },
    )

pub own_joined : (o : Own) (m : Meaning) → Agrees o m → (a : ℕ) (p : Own) → OwnJoins o a p
    → Joined (favour_meaning o m) a (favour_meaning p m) × Agrees p m
own_joined o m agrees a p j =
    let P : ℕ → Own → Type 0 = λ b q. Joined (favour_meaning o m) b (favour_meaning q m) × Agrees q m in
    let at : P o.port (with_own o true o.served) = own_joined_at o m agrees j.free (λ e. j.unserved (e ∙ ap Some (sym j.own))) in
    subst (λ b. P b p) (sym j.own) (subst (P o.port) (sym j.after) at)

pub below_joined : (o : Own) (m n : Meaning) → Agrees o m → (a : ℕ) → (a ≢ o.port) → Joined m a n
    → Joined (favour_meaning o m) a (favour_meaning o n) × Agrees o n
below_joined o m n agrees a ne j = (
  record {
    bus = record { ports = j.bus.ports; limit = λ x y. rw (j.bus.limit x y) refl };
    port = j.port;
    free = rw (ne_eqb a o.port ne) j.free;
    unserved = λ e. j.unserved (agrees.served ∙ rw e (rw (ne_eqb a o.port ne) refl));
    waits = rw (ne_eqb a o.port ne) j.waits;
    others = λ q nq. ap (cond (q == o.port) o.waits) (j.others q nq);
    serves = refl;
    kept = λ x y e. over_kept (y == o.port) (x == o.port) o.waits (m.waits x) (n.still x y) (m.still x y) e (j.kept x y);
    fresh = λ b h nb. served_fits o.served b _ _
        (over_below (b == o.port) (a == o.port) (n.still a b) (m.limit a b) (ne_eqb a o.port ne) (λ _. served_less m.serves b (n.still a b) (m.limit a b) (j.fresh b h nb)))
        (λ e. over_falls (b == o.port) (a == o.port) (n.still a b) (m.limit a b) (ne_eqb a o.port ne)
        (λ nf. served_more m.serves b (n.still a b) (m.limit a b) (j.fresh b h nb) (agrees.served ∙ rw e (rw nf refl))));
  },
  record {
    port = rw j.bus.ports agrees.port;
    unheard = j.others o.port (λ e. ne (sym e)) ∙ agrees.unheard;
    served = j.serves ∙ agrees.served;
    once = agrees.once;
  },
)

-- ---- a grant

endless : (u : Bool) (x y : Limit) → u ≡ true → AtMost (more (cond u None x)) (cond u None y)
endless u x y p = grind arith

own_granted_at : (o : Own) (m : Meaning) → Agrees o m → o.waits ≡ true → o.served ≡ None
    → Granted (favour_meaning o m) o.port (favour_meaning (with_own o false (Some o.port)) m) × Agrees (with_own o false (Some o.port)) m
own_granted_at o m agrees waited unserved =
    let same = eq-eqb o.port o.port refl in (
      record {
        bus = record { ports = refl; limit = λ x y. refl };
        port = agrees.port;
        unserved = unserved;
        waited = rw same waited;
        leaves = rw same refl;
        others = λ q nq. rw (ne_eqb q o.port nq) refl;
        serves = refl;
        falls = λ a e. endless (o.port == o.port) _ _ same;
        kept = λ a b e. at_most_self _;
      },
      record { port = agrees.port; unheard = agrees.unheard; served = agrees.served ∙ rw unserved (rw same refl); once = λ e. refl },
    )

pub own_granted : (o : Own) (m : Meaning) → Agrees o m → (c : ℕ) (p : Own) → OwnGrants o c p
    → Granted (favour_meaning o m) c (favour_meaning p m) × Agrees p m
own_granted o m agrees c p j =
    let P : ℕ → Own → Type 0 = λ b q. Granted (favour_meaning o m) b (favour_meaning q m) × Agrees q m in
    let at : P o.port (with_own o false (Some o.port)) = own_granted_at o m agrees j.waited j.unserved in
    subst (λ b. P b p) (sym j.own) (subst (P o.port) (sym (j.after ∙ ap (λ b. with_own o false (Some b)) j.own)) at)

over_spent : (u v : Bool) (w z : Bool) (x y : Limit) → cond v w z ≡ true → w ≡ false → (z ≡ true → AtMost (more x) y)
    → AtMost (more (cond u None (cond v (Some 0) x))) (cond u None (cond v (Some 0) y))
over_spent u v w z x y p q r = grind arith

below_granted_at : (o : Own) (m n : Meaning) → Agrees o m → (c : ℕ) → o.waits ≡ false → o.served ≡ None → Granted m c n
    → Granted (favour_meaning o m) c (favour_meaning (with_own o false (Some c)) n) × Agrees (with_own o false (Some c)) n
below_granted_at o m n agrees c unwanted unserved k =
    let apart : c ≡ o.port → ⊥ = λ e. both_ways (m.waits o.port) agrees.unheard (ap m.waits (sym e) ∙ k.waited) in
    let other = ne_eqb c o.port apart in (
      record {
        bus = record { ports = k.bus.ports; limit = λ x y. rw (k.bus.limit x y) refl };
        port = k.port;
        unserved = unserved;
        waited = rw other k.waited;
        leaves = rw other k.leaves;
        others = λ q nq. rw (unwanted, k.others q nq) refl;
        serves = refl;
        falls = λ a e. over_spent (c == o.port) (a == o.port) false (n.waits a) (n.still a c) (m.still a c) e refl (k.falls a);
        kept = λ a b e. over_kept (b == o.port) (a == o.port) false (n.waits a) (n.still a b) (m.still a b) e (k.kept a b);
      },
      record {
        port = rw k.bus.ports agrees.port;
        unheard = k.others o.port (λ e. apart (sym e)) ∙ agrees.unheard;
        served = k.serves ∙ rw other refl;
        once = λ e. refl;
      },
    )

pub below_granted : (o : Own) (m n : Meaning) → Agrees o m → (c : ℕ) (p : Own) → Notes o c p → Granted m c n
    → Granted (favour_meaning o m) c (favour_meaning p n) × Agrees p n
below_granted o m n agrees c p j k =
    let P : Own → Type 0 = λ q. Granted (favour_meaning o m) c (favour_meaning q n) × Agrees q n in
    subst P (sym j.after) (below_granted_at o m n agrees c j.unwanted j.unserved k)

-- ---- an end

pub own_done : (o : Own) (m : Meaning) → Agrees o m → o.served ≡ Some o.port
    → Done (favour_meaning o m) (favour_meaning (with_own o o.waits None) m) × Agrees (with_own o o.waits None) m
own_done o m agrees e = (
  record { bus = record { ports = refl; limit = λ x y. refl }; served = (o.port, e); waits = λ q. refl; serves = refl; still = λ x y. refl },
  record { port = agrees.port; unheard = agrees.unheard; served = agrees.served ∙ rw e (rw (eq-eqb o.port o.port refl) refl); once = λ f. absurd (grind arith) },
)

pub below_done : (o : Own) (m n : Meaning) → Agrees o m → (q : ℕ) → o.served ≡ Some q → Done m n
    → Done (favour_meaning o m) (favour_meaning (with_own o o.waits None) n) × Agrees (with_own o o.waits None) n
below_done o m n agrees q e d = (
  record {
    bus = record { ports = d.bus.ports; limit = λ x y. rw (d.bus.limit x y) refl };
    served = (q, e);
    waits = λ r. rw (d.waits r) refl;
    serves = refl;
    still = λ x y. rw (d.still x y) refl;
  },
  record { port = rw d.bus.ports agrees.port; unheard = d.waits o.port ∙ agrees.unheard; served = d.serves; once = λ f. absurd (grind arith) },
)

-- ---- who waits

pub own_waits : (o : Own) (m : Meaning) → o.waits ≡ true → (favour_meaning o m).waits o.port ≡ true
own_waits o m e = rw (eq-eqb o.port o.port refl) e

pub own_wanted : (o : Own) (m : Meaning) → o.waits ≡ true → Wanted (favour_meaning o m)
own_wanted o m e = (o.port, own_waits o m e)

-- ---- what holds of the meaning

over_limit : (u v : Bool) (x : Limit) → Proper x → Proper (cond u None (cond v (Some 1) x))
over_limit u v x p = grind arith

over_still : (u v : Bool) (w z : Bool) (x y : Limit) → cond v w z ≡ true → (u ≡ false → z ≡ true → AtMost x y) → AtMost (cond u None (cond v (Some 0) x)) (cond u None (cond v (Some 1) y))
over_still u v w z x y p q = grind arith

pub favour_sound : (o : Own) (m : Meaning) → Agrees o m → Sound m → Sound (favour_meaning o m)
favour_sound o m agrees s = record {
  some = s.some;
  few = s.few;
  limits = λ a b ha hb ne. over_limit (b == o.port) (a == o.port) (m.limit a b) (s.limits a b ha hb ne);
  waits = λ p e. elim (cases_eq p o.port) [ inl q ↦ rw q agrees.port | inr n ↦ s.waits p (let r : m.waits p ≡ true = rw (ne_eqb p o.port n) at e in r) ];
  serves = λ p e. elim (cases_eq p o.port) [
    | inl q ↦ (rw q agrees.port, rw (eq-eqb p o.port q) (agrees.once (e ∙ ap Some q)))
    | inr n ↦ (let w = s.serves p (agrees.served ∙ rw e (rw (ne_eqb p o.port n) refl)) in (w.0, rw (ne_eqb p o.port n) w.1))
  ];
  still = λ a b e hb ne. over_still (b == o.port) (a == o.port) o.waits (m.waits a) (m.still a b) (m.limit a b) e (λ _ w. s.still a b w hb ne);
}
