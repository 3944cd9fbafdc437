-- A course of the turn rule, taken apart event by event.
use Rattle.std.proofs.Common.{◌≡◌, List, [], ◌∷◌, refl}
use Rattle.bus.specs.Turns.{Meaning, Joined, Granted, Done}
use Rattle.bus.specs.Courses.{Event, joins, grants, ends, RuleCourse}

abbrev pub Turned : Meaning → Event → Meaning → Type 0
Turned m (joins a) n = Joined m a n
Turned m (grants c) n = Granted m c n
Turned m ends n = Done m n

abbrev pub Keeps : Meaning → List Event → Meaning → Type 0
Keeps m [] n = m ≡ n
Keeps m (e ∷ es) n = (l : Meaning) × Keeps m es l × Turned l e n

pub keeps : {m n : Meaning} {es : List Event} → RuleCourse m es n → Keeps m es n
keeps (RuleCourse.start) = refl
keeps (RuleCourse.join {n = l} r j) = (l, keeps r, j)
keeps (RuleCourse.grant {n = l} r g) = (l, keeps r, g)
keeps (RuleCourse.done {n = l} r d) = (l, keeps r, d)
