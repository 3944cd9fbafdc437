-- The batches keep the turn rule. Assumes nothing.
use Rattle.std.specs.Prelude.{◌≡◌, ℕ, ◌+◌, ◌^◌, ◌<◌, ◌≤◌, true, false, ◌||◌, ◌≢◌, nat_lt, refl, Some}
use Rattle.std.proofs.Common.{sym, ap, subst, ◌∙◌, inl, inr, arith}
use Rattle.std.proofs.lemmas.Bool.{cases_eq, both_ways, lt-ltb, or_parts, or_from, or_right}
use Rattle.bus.specs.Masks.{has}
use Rattle.bus.specs.Turns.{Sound, Joined, Granted, Done}
use Rattle.bus.specs.Means.{Laws}
use Rattle.bus.proofs.Served.{served_fits}
use Rattle.bus.proofs.Masks.{has_below, has_or_same, has_or_other, has_xor_same, has_xor_other}
use Rattle.makers_arbiter.specs.declared.Batches.{Batches}
use Rattle.makers_arbiter.specs.Turnover.{in_either, opened, behind}
use Rattle.makers_arbiter.specs.Account.{turns_before, still_before, batch_meaning, batch_means, BatchJoins, BatchGrants, BatchEnds}
use Rattle.makers_arbiter.specs.Opened.{turns_le, turns_out, turns_falls, Opens, opens}

either_below : (m n p k : ℕ) → m < 2 ^ k → n < 2 ^ k → in_either m n p ≡ true → p < k
either_below m n p k h l e = grind (arith, has_below m p k h, has_below n p k l)

batch_sound : (s : Batches) → Sound (batch_meaning s)
batch_sound s = record {
  some = s.ports.some;
  few = s.ports.few;
  limits = λ a b ha hb ne. (omega arith, omega arith);
  waits = λ p e. either_below s.batch s.joined p s.ports.count s.low s.fresh e;
  serves = λ p e. (s.port p e, s.gone p e);
  still = λ a b e hb ne. turns_le (has s.batch a) (has s.batch b) (nat_lt b a);
}

batch_joining : (s : Batches) (a : ℕ) (t : Batches) → BatchJoins s a t → Joined (batch_meaning s) a (batch_meaning t)
batch_joining s a t j = record {
  bus = record { ports = j.ports; limit = λ x y. refl };
  port = j.port;
  free = j.free;
  unserved = j.unserved;
  waits = or_right (has t.batch a) (has t.joined a) (rw j.joined (has_or_same s.joined a));
  others = λ p ne. rw (j.batch, j.joined) (ap (λ u. has s.batch p || u) (has_or_other s.joined a p ne));
  serves = j.served;
  kept = λ x y e. rw j.batch (omega arith);
  fresh = λ b h ne. served_fits s.served b (Some (still_before t.batch a b)) (Some 2) (turns_le (has t.batch a) (has t.batch b) (nat_lt b a))
      (λ e.
      let out : has t.batch b ≡ false = ap (λ m. has m b) j.batch ∙ (or_parts (has s.batch b) (has s.joined b) (s.gone b e)).0 in
      rw out (turns_out (has t.batch a) (nat_lt b a)));
}

batch_granting : (s : Batches) (c : ℕ) (t : Batches) → BatchGrants s c t → Granted (batch_meaning s) c (batch_meaning t)
batch_granting s c t j =
    let batch : ℕ = opened s.batch s.joined in
    let later : ℕ = behind s.batch s.joined in
    let o : Opens s batch later = opens s in
    let in_batch : has batch c ≡ true = j.waited in
    let left : has t.batch c ≡ false = ap (λ m. has m c) j.batch ∙ has_xor_same batch c in_batch in
    let gone : in_either t.batch t.joined c ≡ false = or_from (has t.batch c) (has t.joined c) left (ap (λ m. has m c) j.joined ∙ o.apart c in_batch) in
    let in_t : (p : ℕ) → (p ≢ c) → has t.batch p ≡ has batch p = λ p ne. ap (λ m. has m p) j.batch ∙ has_xor_other batch c p ne in
    let others : (p : ℕ) → (p ≢ c) → in_either t.batch t.joined p ≡ in_either s.batch s.joined p = λ p ne.
    ap (λ u. u || has t.joined p) (in_t p ne) ∙ ap (λ m. has batch p || has m p) j.joined ∙ o.same p in
    let apart : (a : ℕ) → in_either t.batch t.joined a ≡ true → a ≡ c → ⊥ = λ a e f. both_ways (in_either t.batch t.joined c) gone (ap (in_either t.batch t.joined) (sym f) ∙ e) in
    let waited : in_either s.batch s.joined c ≡ true = sym (o.same c) ∙ ap (λ u. u || has later c) in_batch in
    let port : c < s.ports.count = has_below batch c s.ports.count o.low in_batch in
    let after : (a b : ℕ) → in_either t.batch t.joined a ≡ true → still_before t.batch a b ≡ turns_before (has batch a) (has t.batch b) (nat_lt b a) = λ a b e.
    ap (λ u. turns_before u (has t.batch b) (nat_lt b a)) (in_t a (apart a e)) in
    let was : (a b : ℕ) → in_either t.batch t.joined a ≡ true → turns_before (has batch a) (has batch b) (nat_lt b a) ≤ still_before s.batch a b = λ a b e.
    o.still a b (sym (others a (apart a e)) ∙ e) in
    let falls : (a : ℕ) → in_either t.batch t.joined a ≡ true → still_before t.batch a c + 1 ≤ still_before s.batch a c = λ a e.
    (let ne = apart a e in
    let low : has batch a ≡ true → nat_lt c a ≡ true = λ u. lt-ltb c a (let l = j.lowest a u in elim (cases_eq a c) [ inl q ↦ absurd (ne q) | inr n ↦ omega (arith, l, n) ]) in
    let x : turns_before (has batch a) (has t.batch c) (nat_lt c a) ≡ turns_before (has batch a) false (nat_lt c a) = ap (λ v. turns_before (has batch a) v (nat_lt c a)) left in
    let y : turns_before (has batch a) (has batch c) (nat_lt c a) ≡ turns_before (has batch a) true (nat_lt c a) = ap (λ v. turns_before (has batch a) v (nat_lt c a)) in_batch in
    omega (arith, after a c e, was a c e, x, y, turns_falls (has batch a) (nat_lt c a) low)) in
    record {
      bus = record { ports = j.ports; limit = λ x y. refl };
      port = port;
      unserved = j.unserved;
      waited = waited;
      leaves = gone;
      others = others;
      serves = j.served;
      falls = falls;
      kept = λ a b e. elim (cases_eq b c) [
        | inl q ↦ (let f : still_before t.batch a b + 1 ≤ still_before s.batch a b = subst (λ x. still_before t.batch a x + 1 ≤ still_before s.batch a x) (sym q) (falls a e) in omega arith)
        | inr n ↦ (let x : turns_before (has batch a) (has t.batch b) (nat_lt b a) ≡ turns_before (has batch a) (has batch b) (nat_lt b a) = ap (λ v. turns_before (has batch a) v (nat_lt b a)) (in_t b n) in omega (arith, after a b e, was a b e, x))
      ];
    }

batch_ending : (s t : Batches) → BatchEnds s t → Done (batch_meaning s) (batch_meaning t)
batch_ending s t j = record {
  bus = record { ports = j.ports; limit = λ x y. refl };
  served = j.was;
  serves = j.served;
  waits = λ p. ap (λ m. in_either m t.joined p) j.batch ∙ ap (λ m. in_either s.batch m p) j.joined;
  still = λ x y. ap (λ m. Some (still_before m x y)) j.batch;
}

pub batch_laws : Laws batch_means
batch_laws = record {
  sound = λ s st. batch_sound s;
  joining = λ s a t st j. (batch_joining s a t j, tt);
  granting = λ s c t st j. (batch_granting s c t j, tt);
  ending = λ s t st j. (batch_ending s t j, tt);
}
