-- On an arbiter that leaves no choice, the grants are the only ones.
use Rattle.std.proofs.Common.{◌≡◌, ℕ, zero, suc, ◌+◌, List, [], ◌∷◌, get_or, Option, sym, refl, ap, ◌∙◌, subst, arith}
use Rattle.argument.specs.Plans.{Plan}
use Rattle.bus.specs.Means.{Means}
use Rattle.bus.specs.Courses.{Event, joins, grants, ends, Course}
use Rattle.bridge.specs.Scripts.{Script}
use Rattle.bridge.specs.States.{State}
use Rattle.bridge.specs.Moments.{finishes, grant_at, moment}
use Rattle.bridge.specs.Runs.{tick, run}
use Rattle.bridge.specs.Promises.{Picks, PickedGrantsAreTheOnlyOnes}
use Rattle.bridge.proofs.Steps.{finishes_keep, acts_keep}
use Rattle.bridge.proofs.Single.{Before, nobody, somebody, choice, many}

-- the events of the second are those of the first and more
pub data Extends (es : List Event) : List Event → Type 0 where
  same : Extends es es
  more : {fs : List Event} (e : Event) → Extends es fs → Extends es (e ∷ fs)

extends_on : {es fs gs : List Event} → Extends es fs → Extends fs gs → Extends es gs
extends_on a same = a
extends_on a (more e b) = more e (extends_on a b)

abbrev Longer : State → State → Type 0
Longer S T = Extends S.events T.events

grant_events : (Z : Script) (S : State) (p : ℕ) (o : Option ℕ) → (grant_at Z S p o).events ≡ grants p ∷ S.events
grant_events Z S p o = grind arith

longer_before : (P : Plan) (Z : Script) (S : State) → Longer S (Before P Z S)
longer_before P Z S =
    acts_keep P Z (Longer S) (λ T c k e h l. more (joins c) l) (λ T c k e a b l. more (joins c) l) P.cores (finishes P.cores S)
    (finishes_keep (Longer S) (λ T c k e a b l. more ends l) (λ T c k e a b l. more ends l) P.cores S same)

pub longer_moment : (P : Plan) (Z : Script) (p : ℕ) (S : State) → Longer S (moment P Z p S)
longer_moment P Z p S = grind (arith, choice P Z (Before P Z S), longer_before, grant_events, more)

-- each grant is the picked one
abbrev pub Followed : (List Event → ℕ) → List Event → Type 0
Followed pick [] = Unit {0}
Followed pick (joins a ∷ es) = Followed pick es
Followed pick (grants c ∷ es) = (c ≡ pick es) × Followed pick es
Followed pick (ends ∷ es) = Followed pick es

pub followed : {X : Type 0} (means : Means X) (s : X) (pick : List Event → ℕ) → Picks means s pick → {es : List Event} {t : X} → Course means s es t → Followed pick es
followed means s pick picks (Course.start) = tt
followed means s pick picks (Course.join c j) = followed means s pick picks c
followed means s pick picks (Course.grant {t = u} {u = v} {c = p} {es = es} c g) = (picks es p u v c g, followed means s pick picks c)
followed means s pick picks (Course.done c d) = followed means s pick picks c

pub followed_less : (pick : List Event → ℕ) {es fs : List Event} → Extends es fs → Followed pick fs → Followed pick es
followed_less pick same h = h
followed_less pick (more e x) h = grind (arith, followed_less pick x)

-- two runs that follow the same picks are the same
pub same_run : (P : Plan) (Z : Script) (pick : List Event → ℕ) (cs ds : List ℕ) (n : ℕ) → Followed pick (run P Z cs n).events → Followed pick (run P Z ds n).events → run P Z cs n ≡ run P Z ds n
same_run P Z pick cs ds zero c d = refl
same_run P Z pick cs ds (suc n) c d =
    go (same_run P Z pick cs ds n
    (followed_less pick (longer_moment P Z (get_or cs (many P Z cs n) 0) (run P Z cs n)) c)
    (followed_less pick (longer_moment P Z (get_or ds (many P Z ds n) 0) (run P Z ds n)) d))
  where
    S : State
    S = run P Z cs n

    T : State
    T = run P Z ds n

    p : ℕ
    p = get_or cs (many P Z cs n) 0

    q : ℕ
    q = get_or ds (many P Z ds n) 0

    go : S ≡ T → tick (moment P Z p S) ≡ tick (moment P Z q T)
    go e = grind arith

-- the events of a run grow
pub longer_run : (P : Plan) (Z : Script) (cs : List ℕ) (n d t : ℕ) → t ≡ n + d → Extends (run P Z cs n).events (run P Z cs t).events
longer_run P Z cs n zero t e = let u : n ≡ t = omega arith in subst (λ s. Extends (run P Z cs n).events (run P Z cs s).events) u same
longer_run P Z cs n (suc d) t e =
    let u : suc (n + d) ≡ t = omega arith in
    subst (λ s. Extends (run P Z cs n).events (run P Z cs s).events) u
    (extends_on (longer_run P Z cs n d (n + d) refl) (longer_moment P Z (get_or cs (many P Z cs (n + d)) 0) (run P Z cs (n + d))))

pub the_only_ones : {X : Type 0} (means : Means X) → PickedGrantsAreTheOnlyOnes means
the_only_ones means P Z pick s s' a b cs ds n t t' c d = same_run P Z pick cs ds n (followed means s pick a c) (followed means s' pick b d)
