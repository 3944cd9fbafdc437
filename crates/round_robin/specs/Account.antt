-- Round robin's account of itself: ports in a ring, the first that waits is granted, counted upward from the one after the last granted. Assumes nothing.
use Rattle.std.specs.Prelude.{◌≡◌, ℕ, ◌+◌, ◌^◌, ◌<◌, ◌≤◌, true, false, cond, Some, None, bit_or, bit_xor, nat_lt}
use Rattle.bus.specs.Masks.{has}
use Rattle.bus.specs.Turns.{Meaning, Serving}
use Rattle.bus.specs.Means.{Means}
use Rattle.round_robin.specs.declared.RoundRobin.{RoundRobin}
use Rattle.round_robin.specs.Rings.{place}

-- still a b: 1 if the count comes to port b before port a, else 0
abbrev pub round_meaning : RoundRobin → Meaning
round_meaning s = record {
  ports = s.ports.count;
  limit = λ _ _. Some 1;
  waits = has s.mask;
  serves = s.served;
  still = λ a b. Some (cond (nat_lt (place s.next b) (place s.next a)) 1 0);
}

-- a port that neither waits nor is in service gets its bit
pub record RoundJoins (s : RoundRobin) (a : ℕ) (t : RoundRobin) : Type 0 where
  pub port : a < s.ports.count
  pub free : has s.mask a ≡ false
  pub unserved : s.served ≡ Some a → ⊥
  pub ports : t.ports.count ≡ s.ports.count
  pub mask : t.mask ≡ bit_or s.mask (2 ^ a)
  pub next : t.next ≡ s.next
  pub served : t.served ≡ s.served

-- the first that waits loses its bit, and the next count starts after it
pub record RoundGrants (s : RoundRobin) (c : ℕ) (t : RoundRobin) : Type 0 where
  pub unserved : s.served ≡ None
  pub waited : has s.mask c ≡ true
  pub first : (p : ℕ) → has s.mask p ≡ true → place s.next c ≤ place s.next p
  pub ports : t.ports.count ≡ s.ports.count
  pub mask : t.mask ≡ bit_xor s.mask (2 ^ c)
  pub next : t.next ≡ c + 1
  pub served : t.served ≡ Some c

-- the service ends, and all else stays
pub record RoundEnds (s : RoundRobin) (t : RoundRobin) : Type 0 where
  pub was : Serving (round_meaning s)
  pub ports : t.ports.count ≡ s.ports.count
  pub mask : t.mask ≡ s.mask
  pub next : t.next ≡ s.next
  pub served : t.served ≡ None

-- Its standing facts are part of its type: every round robin stands.
abbrev pub round_means : Means RoundRobin
round_means = record { meaning = round_meaning; stands = λ _. Unit {0}; joins = RoundJoins; grants = RoundGrants; ends = RoundEnds }

-- a round robin of n ports before any grant, in which nobody waits and nobody is in service
pub record Fresh (n : ℕ) (s : RoundRobin) : Type 0 where
  pub ports : s.ports.count ≡ n
  pub mask : s.mask ≡ 0
  pub next : s.next ≡ 0
  pub served : s.served ≡ None
