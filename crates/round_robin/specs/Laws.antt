-- Round robin keeps the turn rule. Assumes nothing.
use Rattle.std.specs.Prelude.{◌≡◌, ℕ, ◌<◌, ◌≤◌, true, false, ◌≢◌, refl, Some}
use Rattle.std.proofs.Common.{sym, ap, ◌∙◌, arith}
use Rattle.std.proofs.lemmas.Bool.{both_ways}
use Rattle.bus.specs.Masks.{has}
use Rattle.bus.specs.Turns.{Sound, Joined, Granted, Done}
use Rattle.bus.specs.Means.{Laws}
use Rattle.bus.proofs.Served.{served_fits}
use Rattle.bus.proofs.Masks.{has_below, has_or_same, has_or_other, has_xor_same, has_xor_other}
use Rattle.round_robin.specs.declared.RoundRobin.{RoundRobin}
use Rattle.round_robin.specs.Account.{round_meaning, round_means, RoundJoins, RoundGrants, RoundEnds}
use Rattle.round_robin.specs.Ring.{turns, turns_le, turns_served, turns_falls, turns_kept}

round_sound : (s : RoundRobin) → Sound (round_meaning s)
round_sound s = record {
  some = s.ports.some;
  few = s.ports.few;
  limits = λ a b ha hb ne. (omega arith, omega arith);
  waits = λ p e. has_below s.mask p s.ports.count s.low e;
  serves = λ p e. (omega (arith, s.last p e, s.near), s.gone p e);
  still = λ a b e hb ne. turns_le s.next a b;
}

round_joining : (s : RoundRobin) (a : ℕ) (t : RoundRobin) → RoundJoins s a t → Joined (round_meaning s) a (round_meaning t)
round_joining s a t j = record {
  bus = record { ports = j.ports; limit = λ x y. refl };
  port = j.port;
  free = j.free;
  unserved = j.unserved;
  waits = rw j.mask (has_or_same s.mask a);
  others = λ p ne. rw j.mask (has_or_other s.mask a p ne);
  serves = j.served;
  kept = λ x y e. rw j.next (omega arith);
  fresh = λ b h ne. served_fits s.served b (Some (turns t.next a b)) (Some 1) (turns_le t.next a b)
      (λ e. rw (j.next ∙ s.last b e) (turns_served a b (omega (arith, s.ports.few, j.port)) ne));
}

round_granting : (s : RoundRobin) (c : ℕ) (t : RoundRobin) → RoundGrants s c t → Granted (round_meaning s) c (round_meaning t)
round_granting s c t j =
    let port : c < s.ports.count = has_below s.mask c s.ports.count s.low j.waited in
    let few : s.ports.count ≤ 16 = s.ports.few in
    let near : s.next ≤ s.ports.count = s.near in
    let gone : has t.mask c ≡ false = rw j.mask (has_xor_same s.mask c j.waited) in
    let apart : (a : ℕ) → has t.mask a ≡ true → a ≡ c → ⊥ = λ a e f. both_ways (has t.mask c) gone (ap (has t.mask) (sym f) ∙ e) in
    let others : (p : ℕ) → (p ≢ c) → has t.mask p ≡ has s.mask p = λ p ne. rw j.mask (has_xor_other s.mask c p ne) in
    let was : (a : ℕ) → has t.mask a ≡ true → has s.mask a ≡ true = λ a e. sym (others a (apart a e)) ∙ e in
    let below : (a : ℕ) → has t.mask a ≡ true → a < 16 = λ a e. (let l = has_below s.mask a s.ports.count s.low (was a e) in omega arith) in
    record {
      bus = record { ports = j.ports; limit = λ x y. refl };
      port = port;
      unserved = j.unserved;
      waited = j.waited;
      leaves = gone;
      others = others;
      serves = j.served;
      falls = λ a e. rw j.next (turns_falls s.next a c (omega arith) (below a e) (omega arith) (apart a e) (j.first a (was a e)));
      kept = λ a b e. rw j.next (turns_kept s.next a b c (omega arith) (below a e) (omega arith) (apart a e) (j.first a (was a e)));
    }

round_ending : (s t : RoundRobin) → RoundEnds s t → Done (round_meaning s) (round_meaning t)
round_ending s t j = record {
  bus = record { ports = j.ports; limit = λ x y. refl };
  served = j.was;
  serves = j.served;
  waits = λ p. ap (λ m. has m p) j.mask;
  still = λ x y. ap (λ n. Some (turns n x y)) j.next;
}

pub round_laws : Laws round_means
round_laws = record {
  sound = λ s st. round_sound s;
  joining = λ s a t st j. (round_joining s a t j, tt);
  granting = λ s c t st j. (round_granting s c t j, tt);
  ending = λ s t st j. (round_ending s t j, tt);
}
