-- What the code does to the two masks. Assumes nothing.
use Rattle.std.proofs.Common.{◌≡◌, ℕ, ◌^◌, ◌<◌, ◌≤◌, true, false, sym, ap, ◌∙◌, subst, inl, inr}
use lib.Bits.{bit_xor}
use Rattle.std.proofs.lemmas.Bool.{cases_eq, both_ways, or_left, or_right}
use Rattle.bus.specs.Masks.{has}
use Rattle.bus.specs.Turns.{Wanted}
use Rattle.bus.proofs.Masks.{Lowest, lowest, lowest_in, low_16, flag, flag_set, flag_clear, or_below, has_below, has_or_other, has_xor_same, has_xor_other}
use Rattle.makers_arbiter.specs.declared.Batches.{Batches}
use Rattle.makers_arbiter.specs.Turnover.{opened, behind}
use Rattle.makers_arbiter.specs.Account.{batch_meaning}
use Rattle.makers_arbiter.specs.Opened.{Opens, opens}

lowest_of : (s : Batches) (m : ℕ) → (m ≡ 0 → ⊥) → m < 2 ^ s.ports.count → Lowest m (lowest m)
lowest_of s m n h = lowest_in m n (low_16 m s.ports.count h s.ports.few)

pub one_waits : (s : Batches) → (s.batch ≡ 0 → ⊥) → Wanted (batch_meaning s)
one_waits s n = (lowest s.batch, or_left _ (has s.joined (lowest s.batch)) (lowest_of s s.batch n s.low).waits)

pub one_joined : (s : Batches) → (s.joined ≡ 0 → ⊥) → Wanted (batch_meaning s)
one_joined s n = (lowest s.joined, or_right (has s.batch (lowest s.joined)) _ (lowest_of s s.joined n s.fresh).waits)

-- what the grant of port c, the lowest of the batch, rests on
pub record Found (s : Batches) (batch later c : ℕ) : Type 0 where
  pub opens : Opens s batch later
  pub waited : has batch c ≡ true
  pub lowest : (p : ℕ) → has batch p ≡ true → c ≤ p
  pub port : c < s.ports.count

pub found : (s : Batches) (batch later : ℕ) → batch ≡ opened s.batch s.joined → later ≡ behind s.batch s.joined → (batch ≡ 0 → ⊥) → Found s batch later (lowest batch)
found s batch later e f n =
    let o : Opens s batch later = subst (λ x. Opens s batch x) (sym f) (subst (λ x. Opens s x (behind s.batch s.joined)) (sym e) (opens s)) in
    let l = lowest_of s batch n o.low in record {
      opens = o;
      waited = l.waits;
      lowest = l.first;
      port = has_below batch (lowest batch) s.ports.count o.low l.waits;
    }

-- somebody waits where the batch to serve from is not empty
pub some_wait : (s : Batches) (batch later c : ℕ) → Found s batch later c → Wanted (batch_meaning s)
some_wait s batch later c f = (c, sym (f.opens.same c) ∙ or_left (has batch c) (has later c) f.waited)

-- the batch without that port still has none of those who stay behind
pub still_apart : (s : Batches) (batch later c : ℕ) → Found s batch later c → (p : ℕ) → has (bit_xor batch (2 ^ c)) p ≡ true → has later p ≡ false
still_apart s batch later c f p h = elim (cases_eq p c) [
  | inl q ↦ absurd (both_ways (has (bit_xor batch (2 ^ c)) p) (ap (has (bit_xor batch (2 ^ c))) q ∙ has_xor_same batch c f.waited) h)
  | inr n ↦ f.opens.apart p (sym (has_xor_other batch c p n) ∙ h)
]

-- what the calls' goals rest on
pub ruleset batch_steps = (one_waits, one_joined, found, some_wait, flag, flag_set, flag_clear, or_below, has_or_other)
