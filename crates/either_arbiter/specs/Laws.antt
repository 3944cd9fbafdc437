-- The laws of one of two arbiters, from those of each. Assumes nothing.
use Rattle.std.specs.Prelude.{ℕ}
use Rattle.bus.specs.Turns.{Sound, Joined, Granted, Done}
use Rattle.bus.specs.Means.{Means, Laws}
use Rattle.either_arbiter.specs.declared.Either.{Either}
use Rattle.either_arbiter.specs.declared.Either.TheVariants.{First, Second}
use Rattle.either_arbiter.specs.Account.{either_means}

module _ {X Y : Type 0} (first : Means X) (second : Means Y) (one : Laws first) (two : Laws second) where
  sound : (s : Either X Y) → (either_means first second).stands s → Sound ((either_means first second).meaning s)
  sound (First x) st = one.sound x st
  sound (Second y) st = two.sound y st

  joining : (s : Either X Y) (a : ℕ) (t : Either X Y) → (either_means first second).stands s → (either_means first second).joins s a t
      → Joined ((either_means first second).meaning s) a ((either_means first second).meaning t) × (either_means first second).stands t
  joining (First s) a (First t) st j = one.joining s a t st j
  joining (First s) a (Second t) st j = absurd j
  joining (Second s) a (First t) st j = absurd j
  joining (Second s) a (Second t) st j = two.joining s a t st j

  granting : (s : Either X Y) (c : ℕ) (t : Either X Y) → (either_means first second).stands s → (either_means first second).grants s c t
      → Granted ((either_means first second).meaning s) c ((either_means first second).meaning t) × (either_means first second).stands t
  granting (First s) c (First t) st g = one.granting s c t st g
  granting (First s) c (Second t) st g = absurd g
  granting (Second s) c (First t) st g = absurd g
  granting (Second s) c (Second t) st g = two.granting s c t st g

  ending : (s t : Either X Y) → (either_means first second).stands s → (either_means first second).ends s t
      → Done ((either_means first second).meaning s) ((either_means first second).meaning t) × (either_means first second).stands t
  ending (First s) (First t) st d = one.ending s t st d
  ending (First s) (Second t) st d = absurd d
  ending (Second s) (First t) st d = absurd d
  ending (Second s) (Second t) st d = two.ending s t st d

  pub either_laws : Laws (either_means first second)
  either_laws = record { sound = sound; joining = joining; granting = granting; ending = ending }
