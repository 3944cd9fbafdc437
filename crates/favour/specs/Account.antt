-- A favour's account of itself: one port before all others, over the account of the arbiter below. Assumes nothing.
use Rattle.std.specs.Prelude.{◌≡◌, ℕ, ◌<◌, true, false, cond, ◌⊎◌, Some, None, Option, ◌==◌, ◌≢◌}
use Rattle.bus.specs.Turns.{Meaning}
use Rattle.bus.specs.Means.{Means}
use Rattle.favour.specs.declared.Own.{Own}
use Rattle.favour.specs.declared.Favour.{Favour}

-- Nothing limits the favoured port f: limit a f is no limit. One phase may be in service when f joins: limit f b is 1, and none comes before f after that. All else is as below.
abbrev pub favour_meaning : Own → Meaning → Meaning
favour_meaning own m = record {
  ports = m.ports;
  limit = λ a b. cond (b == own.port) None (cond (a == own.port) (Some 1) (m.limit a b));
  waits = λ p. cond (p == own.port) own.waits (m.waits p);
  serves = own.served;
  still = λ a b. cond (b == own.port) None (cond (a == own.port) (Some 0) (m.still a b));
}

-- the service that the arbiter below hears of: never that of port f
abbrev pub heard_of : ℕ → Option ℕ → Option ℕ
heard_of f None = None
heard_of f (Some p) = cond (p == f) None (Some p)

-- the favour's record agrees with the meaning of the arbiter below
pub record Agrees (own : Own) (m : Meaning) : Type 0 where
  -- the favoured port is a port
  pub port : own.port < m.ports
  -- below it never waits
  pub unheard : m.waits own.port ≡ false
  -- any other service is below too
  pub served : m.serves ≡ heard_of own.port own.served
  -- the favoured port does not wait while it is in service
  pub once : own.served ≡ Some own.port → own.waits ≡ false

-- the favoured port joins
pub record OwnJoins (before : Own) (a : ℕ) (later : Own) : Type 0 where
  pub own : a ≡ before.port
  pub free : before.waits ≡ false
  pub unserved : before.served ≡ Some a → ⊥
  pub after : later ≡ record { port = before.port; waits = true; served = before.served }

-- the favoured port is granted, since it waits
pub record OwnGrants (before : Own) (c : ℕ) (later : Own) : Type 0 where
  pub own : c ≡ before.port
  pub waited : before.waits ≡ true
  pub unserved : before.served ≡ None
  pub after : later ≡ record { port = before.port; waits = false; served = Some c }

-- the favoured port does not wait: the favour notes whom the arbiter below granted
pub record Notes (before : Own) (c : ℕ) (later : Own) : Type 0 where
  pub unwanted : before.waits ≡ false
  pub unserved : before.served ≡ None
  pub after : later ≡ record { port = before.port; waits = false; served = Some c }

-- the service of another port than the favoured one
abbrev pub OthersService : Own → Type 0
OthersService own = (q : ℕ) × (own.served ≡ Some q) × (q ≢ own.port)

module _ {X : Type 0} (below : Means X) where
  -- the favoured port joins here, any other below
  abbrev pub FavourJoins : Favour X → ℕ → Favour X → Type 0
  FavourJoins s a t =
      (OwnJoins s.own a t.own × (t.below ≡ s.below))
      ⊎ ((a ≢ s.own.port) × (t.own ≡ s.own) × below.joins s.below a t.below)

  -- the favoured port is granted if it waits, else whom the arbiter below grants
  abbrev pub FavourGrants : Favour X → ℕ → Favour X → Type 0
  FavourGrants s c t =
      (OwnGrants s.own c t.own × (t.below ≡ s.below))
      ⊎ (Notes s.own c t.own × below.grants s.below c t.below)

  -- the service ends here, and below if it is below
  abbrev pub FavourEnds : Favour X → Favour X → Type 0
  FavourEnds s t =
      (t.own ≡ record { port = s.own.port; waits = s.own.waits; served = None })
      × (((s.own.served ≡ Some s.own.port) × (t.below ≡ s.below))
      ⊎ (OthersService s.own × below.ends s.below t.below))

  -- A favour stands if the arbiter below stands and its own record agrees with it.
  abbrev pub favour_means : Means (Favour X)
  favour_means = record {
    meaning = λ s. favour_meaning s.own (below.meaning s.below);
    stands = λ s. below.stands s.below × Agrees s.own (below.meaning s.below);
    joins = FavourJoins;
    grants = FavourGrants;
    ends = FavourEnds;
  }
