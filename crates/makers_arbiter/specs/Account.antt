-- The account of the batches: the lowest port of the batch is granted, and whoever joins waits for the next batch. Assumes nothing.
use Rattle.std.specs.Prelude.{◌≡◌, ℕ, ◌+◌, ◌^◌, ◌<◌, ◌≤◌, Bool, true, false, cond, ◌&&◌, Some, None, bit_or, bit_xor, nat_lt}
use Rattle.bus.specs.Masks.{has}
use Rattle.bus.specs.Turns.{Meaning, Serving}
use Rattle.bus.specs.Means.{Means}
use Rattle.makers_arbiter.specs.declared.Batches.{Batches}
use Rattle.makers_arbiter.specs.Turnover.{in_either, opened, behind}

abbrev pub one : Bool → ℕ
one b = cond b 1 0

-- how often b may come before a, from: a is in the batch; b is; b is lower
abbrev pub turns_before : Bool → Bool → Bool → ℕ
turns_before true b_in lower = one (b_in && lower)
turns_before false b_in lower = one b_in + one lower

-- Before port a of the batch come those of the batch that are lower. Before port a of those who joined comes the whole batch, then the lower ones once more.
abbrev pub still_before : ℕ → ℕ → ℕ → ℕ
still_before batch a b = turns_before (has batch a) (has batch b) (nat_lt b a)

abbrev pub batch_meaning : Batches → Meaning
batch_meaning s = record {
  ports = s.ports.count;
  limit = λ _ _. Some 2;
  waits = in_either s.batch s.joined;
  serves = s.served;
  still = λ a b. Some (still_before s.batch a b);
}

-- a port that neither waits nor is in service waits for the next batch
pub record BatchJoins (s : Batches) (a : ℕ) (t : Batches) : Type 0 where
  pub port : a < s.ports.count
  pub free : in_either s.batch s.joined a ≡ false
  pub unserved : s.served ≡ Some a → ⊥
  pub ports : t.ports.count ≡ s.ports.count
  pub batch : t.batch ≡ s.batch
  pub joined : t.joined ≡ bit_or s.joined (2 ^ a)
  pub served : t.served ≡ s.served

-- the lowest port of the batch leaves it for the service
pub record BatchGrants (s : Batches) (c : ℕ) (t : Batches) : Type 0 where
  pub unserved : s.served ≡ None
  pub waited : has (opened s.batch s.joined) c ≡ true
  pub lowest : (p : ℕ) → has (opened s.batch s.joined) p ≡ true → c ≤ p
  pub ports : t.ports.count ≡ s.ports.count
  pub batch : t.batch ≡ bit_xor (opened s.batch s.joined) (2 ^ c)
  pub joined : t.joined ≡ behind s.batch s.joined
  pub served : t.served ≡ Some c

-- the service ends, and all else stays
pub record BatchEnds (s : Batches) (t : Batches) : Type 0 where
  pub was : Serving (batch_meaning s)
  pub ports : t.ports.count ≡ s.ports.count
  pub batch : t.batch ≡ s.batch
  pub joined : t.joined ≡ s.joined
  pub served : t.served ≡ None

-- The standing facts are part of the type.
abbrev pub batch_means : Means Batches
batch_means = record { meaning = batch_meaning; stands = λ _. Unit {0}; joins = BatchJoins; grants = BatchGrants; ends = BatchEnds }

-- n ports, nobody waits and nobody is in service
pub record Fresh (n : ℕ) (s : Batches) : Type 0 where
  pub ports : s.ports.count ≡ n
  pub batch : s.batch ≡ 0
  pub joined : s.joined ≡ 0
  pub served : s.served ≡ None
