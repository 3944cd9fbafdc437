-- The account of a value that is one of two arbiters: it does what the one does that it is, and stays that one. Assumes nothing.
use Rattle.std.specs.Prelude.{ℕ}
use Rattle.bus.specs.Turns.{Meaning}
use Rattle.bus.specs.Means.{Means}
use Rattle.either_arbiter.specs.declared.Either.{Either}
use Rattle.either_arbiter.specs.declared.Either.TheVariants.{First, Second}

module _ {X Y : Type 0} (first : Means X) (second : Means Y) where
  abbrev pub either_meaning : Either X Y → Meaning
  either_meaning (First x) = first.meaning x
  either_meaning (Second y) = second.meaning y

  abbrev pub EitherStands : Either X Y → Type 0
  EitherStands (First x) = first.stands x
  EitherStands (Second y) = second.stands y

  abbrev pub EitherJoins : Either X Y → ℕ → Either X Y → Type 0
  EitherJoins (First s) a (First t) = first.joins s a t
  EitherJoins (First s) a (Second t) = ⊥
  EitherJoins (Second s) a (First t) = ⊥
  EitherJoins (Second s) a (Second t) = second.joins s a t

  abbrev pub EitherGrants : Either X Y → ℕ → Either X Y → Type 0
  EitherGrants (First s) c (First t) = first.grants s c t
  EitherGrants (First s) c (Second t) = ⊥
  EitherGrants (Second s) c (First t) = ⊥
  EitherGrants (Second s) c (Second t) = second.grants s c t

  abbrev pub EitherEnds : Either X Y → Either X Y → Type 0
  EitherEnds (First s) (First t) = first.ends s t
  EitherEnds (First s) (Second t) = ⊥
  EitherEnds (Second s) (First t) = ⊥
  EitherEnds (Second s) (Second t) = second.ends s t

  abbrev pub either_means : Means (Either X Y)
  either_means = record { meaning = either_meaning; stands = EitherStands; joins = EitherJoins; grants = EitherGrants; ends = EitherEnds }
