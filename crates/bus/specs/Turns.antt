-- The turn rule: what an arbiter's value means, and what a join, a grant and a done may make of that meaning. Assumes nothing.
use Rattle.std.specs.Prelude.{◌≡◌, ℕ, ◌<◌, ◌≤◌, Bool, true, false, cond, ◌⊎◌, Some, None, Option, ◌==◌, ◌≢◌}
use Rattle.tasks.specs.Limits.{AtMost, more, Limit}

-- A port is one core's place at the bus. It waits for the bus, is in service on it, or neither.
pub record Meaning : Type 0 where
  -- the ports are the numbers below this one
  pub ports : ℕ
  -- limit a b: the most phases of port b that may be granted while a phase of port a waits
  pub limit : ℕ → ℕ → Limit
  -- the ports that wait
  pub waits : ℕ → Bool
  -- the port in service, if any
  pub serves : Option ℕ
  -- still a b: the most phases of port b that may yet be granted before port a, which waits
  pub still : ℕ → ℕ → Limit

-- nobody waits, and nobody is in service
abbrev pub Idle : Meaning → Type 0
Idle m = ((p : ℕ) → m.waits p ≡ false) × (m.serves ≡ None)

-- some port waits
abbrev pub Wanted : Meaning → Type 0
Wanted m = (p : ℕ) × (m.waits p ≡ true)

-- some port is in service
abbrev pub Serving : Meaning → Type 0
Serving m = (p : ℕ) × (m.serves ≡ Some p)

-- Not idle: there is a port that waits or is in service.
abbrev pub Busy : Meaning → Type 0
Busy m = Wanted m ⊎ Serving m

-- 1 to 255, or no limit
abbrev pub Proper : Limit → Type 0
Proper (Some n) = (1 ≤ n) × (n ≤ 255)
Proper None = Unit {0}

-- what holds of the meaning of every value that stands
pub record Sound (m : Meaning) : Type 0 where
  -- there are 1 to 16 ports
  pub some : 1 ≤ m.ports
  pub few : m.ports ≤ 16
  -- a limit between two different ports is 1 to 255, or no limit
  pub limits : (a b : ℕ) → a < m.ports → b < m.ports → (b ≢ a) → Proper (m.limit a b)
  -- only ports wait
  pub waits : (p : ℕ) → m.waits p ≡ true → p < m.ports
  -- the one in service is a port, and does not wait
  pub serves : (p : ℕ) → m.serves ≡ Some p → (p < m.ports) × (m.waits p ≡ false)
  -- what may yet come before a waiting port is within its limits
  pub still : (a b : ℕ) → m.waits a ≡ true → b < m.ports → (b ≢ a) → AtMost (m.still a b) (m.limit a b)

-- ports and limits never change
pub record SameBus (m n : Meaning) : Type 0 where
  pub ports : n.ports ≡ m.ports
  pub limit : (x y : ℕ) → n.limit x y ≡ m.limit x y

-- port b is the one in service
abbrev pub in_service : Option ℕ → ℕ → Bool
in_service None b = false
in_service (Some p) b = p == b

-- a number of phases, plus 1 if port b is the one in service
abbrev pub with_served : Option ℕ → ℕ → Limit → Limit
with_served served b phases = cond (in_service served b) (more phases) phases

-- from m to n port a joined
pub record Joined (m : Meaning) (a : ℕ) (n : Meaning) : Type 0 where
  pub bus : SameBus m n
  -- a is a port that neither waits nor is in service
  pub port : a < m.ports
  pub free : m.waits a ≡ false
  pub unserved : m.serves ≡ Some a → ⊥
  -- it waits now; no other wait changes, and no service
  pub waits : n.waits a ≡ true
  pub others : (p : ℕ) → (p ≢ a) → n.waits p ≡ m.waits p
  pub serves : n.serves ≡ m.serves
  -- no still of a port that already waited rises
  pub kept : (x y : ℕ) → m.waits x ≡ true → AtMost (n.still x y) (m.still x y)
  -- for each other b, still a b, plus 1 if b is in service, is at most the limit
  pub fresh : (b : ℕ) → b < m.ports → (b ≢ a) → AtMost (with_served m.serves b (n.still a b)) (m.limit a b)

-- from m to n port c was granted
pub record Granted (m : Meaning) (c : ℕ) (n : Meaning) : Type 0 where
  pub bus : SameBus m n
  -- nobody was in service, and c is a port that waited
  pub unserved : m.serves ≡ None
  pub port : c < m.ports
  pub waited : m.waits c ≡ true
  -- c alone leaves the waiting, and is in service
  pub leaves : n.waits c ≡ false
  pub others : (p : ℕ) → (p ≢ c) → n.waits p ≡ m.waits p
  pub serves : n.serves ≡ Some c
  -- for each port a still waiting, still a c was at least 1 and falls by at least 1, unless it is no limit: that is one more than itself
  pub falls : (a : ℕ) → n.waits a ≡ true → AtMost (more (n.still a c)) (m.still a c)
  -- no other still of a waiting port rises
  pub kept : (a b : ℕ) → n.waits a ≡ true → AtMost (n.still a b) (m.still a b)

-- from m to n the service ended, and nothing else changed
pub record Done (m n : Meaning) : Type 0 where
  pub bus : SameBus m n
  pub served : Serving m
  pub serves : n.serves ≡ None
  pub waits : (p : ℕ) → n.waits p ≡ m.waits p
  pub still : (x y : ℕ) → n.still x y ≡ m.still x y
