-- A run: the four steps at every moment, one tick after the other. Assumes nothing.
use Rattle.std.specs.Prelude.{ℕ, zero, suc, List, [], ◌∷◌, length, slice_index}
use Rattle.argument.specs.Plans.{Plan}
use Rattle.bus.specs.Courses.{Event, joins, grants, ends}
use Rattle.bridge.specs.Scripts.{Script}
use Rattle.bridge.specs.States.{State, begun}
use Rattle.bridge.specs.Moments.{moment}

-- the ports that were granted, the latest first
abbrev pub grants_of : List Event → List ℕ
grants_of [] = []
grants_of (joins a ∷ es) = grants_of es
grants_of (grants c ∷ es) = c ∷ grants_of es
grants_of (ends ∷ es) = grants_of es

-- the same state, one tick later
abbrev pub tick : State → State
tick S = record { now = suc S.now; cell = S.cell; has = S.has; events = S.events }

-- The state before the moment n. The arbiter's choices are the only freedom: `choices` has the ports that it grants, in their order.
abbrev pub run : Plan → Script → List ℕ → ℕ → State
run plan script choices zero = begun
run plan script choices (suc n) = tick (moment plan script (slice_index choices (length (grants_of (run plan script choices n).events))) (run plan script choices n))

-- the same state at another moment
abbrev pub at_moment : ℕ → State → State
at_moment t S = record { now = t; cell = S.cell; has = S.has; events = S.events }
