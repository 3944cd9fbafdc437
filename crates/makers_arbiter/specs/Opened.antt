-- What a grant serves from: the batch, or those who joined where the batch is empty. Assumes nothing.
use Rattle.std.specs.Prelude.{◌≡◌, ℕ, ◌+◌, ◌^◌, ◌<◌, ◌≤◌, Bool, true, false, ◌||◌, nat_lt, refl}
use Rattle.std.proofs.Common.{sym, ap, ◌∙◌, inl, inr, arith}
use Rattle.std.proofs.lemmas.Bool.{cases_eq, eq-eqb, ne_eqb}
use Rattle.bus.specs.Masks.{has}
use Rattle.bus.proofs.Masks.{has_none}
use Rattle.makers_arbiter.specs.declared.Batches.{Batches}
use Rattle.makers_arbiter.specs.Turnover.{in_either, opened, behind}
use Rattle.makers_arbiter.specs.Account.{turns_before, still_before}

-- ---- how often b may come before a

pub turns_le : (u v w : Bool) → turns_before u v w ≤ 2
turns_le u v w = grind arith

-- a port outside the batch comes once at most
pub turns_out : (u w : Bool) → turns_before u false w + 1 ≤ 2
turns_out u w = grind arith

-- a port that leaves the batch uses up one of its turns
pub turns_falls : (u w : Bool) → (u ≡ true → w ≡ true) → turns_before u false w + 1 ≤ turns_before u true w
turns_falls u w h = grind arith

-- one who joined gains when the batch is opened
turns_gain : (v w : Bool) → turns_before true v w ≤ turns_before false false w
turns_gain v w = grind arith

-- ---- the batch that is opened, and those who stay behind

pub record Opens (s : Batches) (batch later : ℕ) : Type 0 where
  pub low : batch < 2 ^ s.ports.count
  pub fresh : later < 2 ^ s.ports.count
  pub apart : (p : ℕ) → has batch p ≡ true → has later p ≡ false
  -- the same ports wait
  pub same : (p : ℕ) → in_either batch later p ≡ in_either s.batch s.joined p
  -- and no still of one that waits has risen
  pub still : (a b : ℕ) → in_either s.batch s.joined a ≡ true → turns_before (has batch a) (has batch b) (nat_lt b a) ≤ still_before s.batch a b

or_swap : (u v : Bool) → u ≡ false → (v || u) ≡ (u || v)
or_swap u v e = grind arith

left_out : (u v : Bool) → u ≡ false → (u || v) ≡ true → v ≡ true
left_out u v e f = grind arith

opens_joined : (s : Batches) → s.batch ≡ 0 → Opens s s.joined 0
opens_joined s z =
    let none : (p : ℕ) → has s.batch p ≡ false = λ p. ap (λ m. has m p) z ∙ has_none p in
    record {
      low = s.fresh;
      fresh = omega (arith, s.low);
      apart = λ p e. has_none p;
      same = λ p. ap (λ u. has s.joined p || u) (has_none p ∙ sym (none p)) ∙ or_swap (has s.batch p) (has s.joined p) (none p);
      still = λ a b w. rw (left_out (has s.batch a) (has s.joined a) (none a) w) (rw (none a) (rw (none b) (turns_gain (has s.joined b) (nat_lt b a))));
    }

opens_batch : (s : Batches) → Opens s s.batch s.joined
opens_batch s = record {
  low = s.low;
  fresh = s.fresh;
  apart = s.apart;
  same = λ p. refl;
  still = λ a b w. omega arith;
}

pub opens : (s : Batches) → Opens s (opened s.batch s.joined) (behind s.batch s.joined)
opens s = elim (cases_eq s.batch 0) [
  | inl z ↦ rw (eq-eqb s.batch 0 z) (opens_joined s z)
  | inr n ↦ rw (ne_eqb s.batch 0 n) (opens_batch s)
]
