-- An arbiter's account of itself, the laws that it owes, and which refusal a call earns. Assumes nothing.
use Rattle.std.specs.Prelude.{◌≡◌, ℕ, ◌<◌, ◌≤◌, true, false, ◌⊎◌, Some, None}
use Rattle.tasks.specs.Limits.{Limit}
use Rattle.tasks.specs.declared.refusal.Refusal.{Refusal}
use Rattle.tasks.specs.Refusals.{told, refusal}
use Rattle.bus.specs.Turns.{Meaning, Wanted, Serving, Sound, Joined, Granted, Done}

-- How an arbiter with values X tells of itself. The accounts of its steps may say more than the turn rule: which port is granted, in which order.
pub record Means (X : Type 0) : Type 1 where
  -- what a value stands for
  pub meaning : X → Meaning
  -- the parts of a value agree with each other
  pub stands : X → Type 0
  -- joins s a t: a join of port a makes t of s
  pub joins : X → ℕ → X → Type 0
  -- grants s c t: a grant answers port c, and makes t of s
  pub grants : X → ℕ → X → Type 0
  -- ends s t: a done makes t of s
  pub ends : X → X → Type 0

-- From a value that stands each step keeps the turn rule, and leads to a value that stands.
pub record Laws {X : Type 0} (means : Means X) : Type 0 where
  pub sound : (s : X) → means.stands s → Sound (means.meaning s)
  pub joining : (s : X) (a : ℕ) (t : X) → means.stands s → means.joins s a t → Joined (means.meaning s) a (means.meaning t) × means.stands t
  pub granting : (s : X) (c : ℕ) (t : X) → means.stands s → means.grants s c t → Granted (means.meaning s) c (means.meaning t) × means.stands t
  pub ending : (s : X) (t : X) → means.stands s → means.ends s t → Done (means.meaning s) (means.meaning t) × means.stands t

-- The refusals of each call, in the order in which they are judged.

-- 6: the ports are not 1 to 16
abbrev pub PortsRefused : ℕ → Refusal → Type 0
PortsRefused ports e = (told e ≡ refusal 6) × ((ports < 1) ⊎ (16 < ports))

-- 6: no such port
abbrev pub PortRefused : ℕ → ℕ → Refusal → Type 0
PortRefused ports a e = (told e ≡ refusal 6) × (ports ≤ a)

-- 6: one is no port, or they are the same
abbrev pub PairRefused : ℕ → ℕ → ℕ → Refusal → Type 0
PairRefused ports a b e = (told e ≡ refusal 6) × ((ports ≤ a) ⊎ ((ports ≤ b) ⊎ (a ≡ b)))

-- 6: no such port; 15: the port waits or is in service
abbrev pub JoinRefused : Meaning → ℕ → Refusal → Type 0
JoinRefused m a e =
    PortRefused m.ports a e
    ⊎ ((told e ≡ refusal 15) × (a < m.ports) × ((m.waits a ≡ true) ⊎ (m.serves ≡ Some a)))

-- 16: nobody waits; 17: somebody waits during a service
abbrev pub GrantRefused : Meaning → Refusal → Type 0
GrantRefused m e =
    ((told e ≡ refusal 16) × ((p : ℕ) → m.waits p ≡ false))
    ⊎ ((told e ≡ refusal 17) × Wanted m × Serving m)

-- 18: nobody is in service
abbrev pub DoneRefused : Meaning → Refusal → Type 0
DoneRefused m e = (told e ≡ refusal 18) × (m.serves ≡ None)

-- limit answers of two different ports
pub record LimitOf (m : Meaning) (a b : ℕ) (l : Limit) : Type 0 where
  pub first : a < m.ports
  pub second : b < m.ports
  pub apart : a ≡ b → ⊥
  pub limit : l ≡ m.limit a b

-- 6: one is no port, or they are the same
abbrev pub LimitRefused : Meaning → ℕ → ℕ → Refusal → Type 0
LimitRefused m a b e = PairRefused m.ports a b e
