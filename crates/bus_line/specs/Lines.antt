-- The arbiter that a bus line spells: a bottom arbiter under its favours, with their limits. Assumes nothing.
use Rattle.std.specs.Prelude.{◌≡◌, ℕ, false, cond, List, [], ◌∷◌, None, ◌==◌, Some}
use Rattle.tasks.specs.Limits.{Limit}
use Rattle.tasks.specs.declared.platform.Bottom.{Bottom}
use Rattle.tasks.specs.declared.platform.Bottom.TheVariants.{Queue, RoundRobin}
use Rattle.tasks.specs.declared.platform.Favours.{Favours}
use Rattle.tasks.specs.declared.platform.Favours.TheVariants.{Nobody, One, Two}
use Rattle.tasks.specs.declared.platform.BusLine.{BusLine}
use Rattle.tasks.specs.Platforms.{favoured}
use Rattle.bus.specs.Turns.{Idle}
use Rattle.bus.specs.Means.{Means}
use Rattle.queue.specs.declared.Queue.{Queue as QueueValue}
use Rattle.queue.specs.Account.{queue_means, Fresh as FreshQueue}
use Rattle.round_robin.specs.declared.RoundRobin.{RoundRobin as RoundRobinValue}
use Rattle.round_robin.specs.Account.{round_means, Fresh as FreshRing}
use Rattle.favour.specs.declared.Own.{Own}
use Rattle.favour.specs.declared.Favour.{Favour}
use Rattle.favour.specs.Account.{favour_means}
use Rattle.either_arbiter.specs.declared.Either.{Either}
use Rattle.either_arbiter.specs.declared.Either.TheVariants.{First, Second}
use Rattle.either_arbiter.specs.Account.{either_means}

-- a bottom arbiter
abbrev pub BaseValue : Type 0
BaseValue = Either QueueValue RoundRobinValue

-- a bottom arbiter under no, one or two favours
abbrev pub BusValue : Type 0
BusValue = Either BaseValue (Either (Favour BaseValue) (Favour (Favour BaseValue)))

abbrev pub base_means : Means BaseValue
base_means = either_means queue_means round_means

abbrev pub bus_means : Means BusValue
bus_means = either_means base_means (either_means (favour_means base_means) (favour_means (favour_means base_means)))

-- the bottom arbiter that is named, fresh, with n ports
abbrev pub BaseMade : Bottom → ℕ → BaseValue → Type 0
BaseMade Queue n (First queue) = FreshQueue n queue
BaseMade Queue n (Second ring) = ⊥
BaseMade RoundRobin n (First queue) = ⊥
BaseMade RoundRobin n (Second ring) = FreshRing n ring

-- a favour's record before any call
abbrev pub fresh_own : ℕ → Own
fresh_own port = record { port = port; waits = false; served = None }

-- the favours that are named, the outermost first, over a base of which P holds
abbrev pub UnderFavours : Favours → (BaseValue → Type 0) → BusValue → Type 0
UnderFavours Nobody P (First base) = P base
UnderFavours Nobody P (Second favoured) = ⊥
UnderFavours (One outer) P (First base) = ⊥
UnderFavours (One outer) P (Second (First one)) = (one.own ≡ fresh_own outer) × P one.below
UnderFavours (One outer) P (Second (Second two)) = ⊥
UnderFavours (Two outer inner) P (First base) = ⊥
UnderFavours (Two outer inner) P (Second (First one)) = ⊥
UnderFavours (Two outer inner) P (Second (Second two)) = (two.own ≡ fresh_own outer) × (two.below.own ≡ fresh_own inner) × P two.below.below

-- limits over limits of 1, with these ports favoured, the outermost first
abbrev pub line_limit : List ℕ → ℕ → ℕ → Limit
line_limit [] a b = Some 1
line_limit (f ∷ fs) a b = cond (b == f) None (cond (a == f) (Some 1) (line_limit fs a b))

-- what becomes of a bus line for n ports
pub record BusMade (line : BusLine) (n : ℕ) (bus : BusValue) : Type 0 where
  -- which arbiter it is, and its state
  pub made : UnderFavours line.favours (BaseMade line.bottom n) bus
  -- its parts agree, and it is idle
  pub stands : bus_means.stands bus
  pub idle : Idle (bus_means.meaning bus)
  -- its ports and limits
  pub ports : (bus_means.meaning bus).ports ≡ n
  pub limits : (a b : ℕ) → (bus_means.meaning bus).limit a b ≡ line_limit (favoured line.favours) a b
