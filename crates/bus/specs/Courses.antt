-- The courses that an arbiter can take, event by event, and that on none of them a port waits past its limits. Assumes nothing.
use Rattle.std.specs.Prelude.{◌≡◌, ℕ, ◌+◌, ◌<◌, cond, List, [], ◌∷◌, ◌==◌, ◌≢◌, Some}
use Rattle.tasks.specs.Limits.{AtMost, Limit}
use Rattle.bus.specs.Turns.{Meaning, Joined, Granted, Done, with_served}
use Rattle.bus.specs.Means.{Means}

pub data Event : Type 0 where
  joins : ℕ → Event
  grants : ℕ → Event
  ends : Event

-- The course of an arbiter by its own account, from one value to another. The latest event stands first.
pub data Course {X : Type 0} (means : Means X) (s : X) : List Event → X → Type 0 where
  start : Course means s [] s
  join : {t u : X} {a : ℕ} {es : List Event} → Course means s es t → means.joins t a u → Course means s (joins a ∷ es) u
  grant : {t u : X} {c : ℕ} {es : List Event} → Course means s es t → means.grants t c u → Course means s (grants c ∷ es) u
  done : {t u : X} {es : List Event} → Course means s es t → means.ends t u → Course means s (ends ∷ es) u

-- A course of meanings: all that is known of an arbiter is the turn rule.
pub data RuleCourse (m : Meaning) : List Event → Meaning → Type 0 where
  start : RuleCourse m [] m
  join : {n o : Meaning} {a : ℕ} {es : List Event} → RuleCourse m es n → Joined n a o → RuleCourse m (joins a ∷ es) o
  grant : {n o : Meaning} {c : ℕ} {es : List Event} → RuleCourse m es n → Granted n c o → RuleCourse m (grants c ∷ es) o
  done : {n o : Meaning} {es : List Event} → RuleCourse m es n → Done n o → RuleCourse m (ends ∷ es) o

-- how many phases of port b are granted on a course
abbrev pub phases : ℕ → List Event → ℕ
phases b [] = 0
phases b (joins a ∷ es) = phases b es
phases b (grants c ∷ es) = cond (c == b) 1 0 + phases b es
phases b (ends ∷ es) = phases b es

-- From the join of port a on, as long as a is not granted, the phases of another port b that are granted, plus 1 if b was in service at the join, are at most the limit.
abbrev pub NoTurnsPassALimit : Type 0
NoTurnsPassALimit =
    (m : Meaning) (a : ℕ) (n : Meaning) (es : List Event) (o : Meaning) (b : ℕ)
    → Joined m a n → RuleCourse n es o → phases a es ≡ 0 → b < m.ports → (b ≢ a)
    → AtMost (with_served m.serves b (Some (phases b es))) (m.limit a b)

-- An arbiter's own course is a course of the turn rule, and ends at a value that stands.
abbrev pub EveryCourseKeepsTheTurnRule : {X : Type 0} → Means X → Type 0
EveryCourseKeepsTheTurnRule {X} means =
    (s : X) (es : List Event) (t : X) → means.stands s → Course means s es t
    → RuleCourse (means.meaning s) es (means.meaning t) × means.stands t

-- Whatever is called on an arbiter from the value s on: from a join of port a, as long as a is not granted, the phases of port b that are granted, plus 1 if b was in service at the join, are at most l.
abbrev pub NoWaitIsLonger : {X : Type 0} → Means X → X → ℕ → ℕ → Limit → Type 0
NoWaitIsLonger {X} means s a b l =
    (before : List Event) (t u : X) (es : List Event) (v : X)
    → means.stands s → Course means s before t → means.joins t a u → Course means u es v → phases a es ≡ 0
    → AtMost (with_served (means.meaning t).serves b (Some (phases b es))) l
