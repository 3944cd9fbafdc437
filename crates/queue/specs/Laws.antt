-- The queue keeps the turn rule. Assumes nothing.
use Rattle.std.specs.Prelude.{◌≡◌, ℕ, ◌≤◌, Bool, true, false, cond, List, [], ◌∷◌, ◌++◌, ◌==◌, refl, Some}
use Rattle.std.proofs.Common.{ap, subst, ◌∙◌, arith}
use Rattle.std.proofs.lemmas.Bool.{both_ways, eq-eqb, ne_eqb}
use Rattle.bus.specs.Turns.{Sound, Joined, Granted, Done}
use Rattle.bus.specs.Means.{Laws}
use Rattle.bus.proofs.Served.{served_fits}
use Rattle.queue.specs.declared.Queue.{Queue}
use Rattle.queue.specs.Lines.{among, ahead, Apart}
use Rattle.queue.specs.Account.{line, queue_meaning, queue_means, QueueJoins, QueueGrants, QueueEnds}
use Rattle.queue.specs.Line.{apart_first, among_end, among_other, ahead_le, ahead_end, ahead_absent}

queue_sound : (s : Queue) → Sound (queue_meaning s)
queue_sound s = record {
  some = s.ports.some;
  few = s.ports.few;
  limits = λ a b ha hb ne. (omega arith, omega arith);
  waits = s.below;
  serves = λ p e. (s.port p e, s.gone p e);
  still = λ a b e hb ne. ahead_le a b (line s);
}

queue_joining : (s : Queue) (a : ℕ) (t : Queue) → QueueJoins s a t → Joined (queue_meaning s) a (queue_meaning t)
queue_joining s a t j =
    let xs : List ℕ = line s in
    let e : line t ≡ xs ++ (a ∷ []) = j.line in
    record {
      bus = record { ports = j.ports; limit = λ x y. refl };
      port = j.port;
      free = j.free;
      unserved = j.unserved;
      waits = rw e (among_end xs a);
      others = λ p ne. rw e (among_other xs a p ne);
      serves = j.served;
      kept = λ x y w. rw e (omega (arith, ahead_end xs a x y w));
      fresh = λ b h ne. served_fits s.served b (Some (ahead a b (line t))) (Some 1) (ahead_le a b (line t))
          (λ f. omega (arith, ahead_absent (line t) a b (ap (among b) e ∙ among_other xs a b ne ∙ s.gone b f)));
    }

ahead_more : (u : Bool) (n : ℕ) → n ≤ 1 → n ≤ cond u 1 n
ahead_more u n h = grind arith

queue_granting : (s : Queue) (c : ℕ) (t : Queue) → QueueGrants s c t → Granted (queue_meaning s) c (queue_meaning t)
queue_granting s c t j =
    let ys : List ℕ = line t in
    let e : line s ≡ c ∷ ys = j.line in
    let out : among c ys ≡ false = apart_first c ys (subst Apart e s.once) in
    let waited : among c (line s) ≡ true = rw e (rw (eq-eqb c c refl) refl) in
    let other : (a : ℕ) → among a ys ≡ true → c ≡ a → ⊥ = λ a w q. both_ways (among c ys) out (ap (λ x. among x ys) q ∙ w) in
    record {
      bus = record { ports = j.ports; limit = λ x y. refl };
      port = s.below c waited;
      unserved = j.unserved;
      waited = waited;
      leaves = out;
      others = λ p ne. rw e (rw (ne_eqb p c ne) refl);
      serves = j.served;
      falls = λ a w. rw e (rw (ne_eqb c a (other a w)) (rw (eq-eqb c c refl) (omega (arith, ahead_absent ys a c out))));
      kept = λ a b w. rw e (rw (ne_eqb c a (other a w)) (ahead_more (c == b) (ahead a b ys) (ahead_le a b ys)));
    }

queue_ending : (s t : Queue) → QueueEnds s t → Done (queue_meaning s) (queue_meaning t)
queue_ending s t j = record {
  bus = record { ports = j.ports; limit = λ x y. refl };
  served = j.was;
  serves = j.served;
  waits = λ p. ap (among p) j.line;
  still = λ x y. ap (λ xs. Some (ahead x y xs)) j.line;
}

pub queue_laws : Laws queue_means
queue_laws = record {
  sound = λ s st. queue_sound s;
  joining = λ s a t st j. (queue_joining s a t j, tt);
  granting = λ s c t st j. (queue_granting s c t j, tt);
  ending = λ s t st j. (queue_ending s t j, tt);
}
