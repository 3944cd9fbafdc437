-- The longest phases first, of a list of phases: each entry is a length, and how many phases have it. Assumes nothing.
use Rattle.std.specs.Prelude.{◌≡◌, ℕ, zero, suc, ◌+◌, ◌-◌, ◌*◌, ◌≤◌, cond, List, [], ◌∷◌, sum_by, ◌==◌, nat_lt, Some, None}
use Rattle.tasks.specs.Limits.{capped, Limit}
use Rattle.argument.specs.Sums.{on}
use Rattle.argument.specs.Plans.{Plan}
use Rattle.argument.specs.Demand.{offered, longer}

-- what a limit still lets through after n phases
abbrev pub less : Limit → ℕ → Limit
less (Some m) n = Some (m - n)
less None n = None

-- the ticks of the phases at the front, as many as the limit lets through
abbrev pub taken : Limit → List (ℕ × ℕ) → ℕ
taken limit [] = 0
taken limit ((length, many) ∷ rest) = length * capped limit many + taken (less limit many) rest

-- no phase is longer than this; by recursion, and not as std's All, since `taken` goes phase by phase too
abbrev pub NoneLonger : ℕ → List (ℕ × ℕ) → Type 0
NoneLonger most [] = Unit {0}
NoneLonger most ((length, many) ∷ rest) = (length ≤ most) × NoneLonger most rest

-- no phase is longer than one before it
abbrev pub Falling : List (ℕ × ℕ) → Type 0
Falling [] = Unit {0}
Falling ((length, many) ∷ rest) = NoneLonger length rest × Falling rest

-- how many phases are longer than l
abbrev pub many_longer : ℕ → List (ℕ × ℕ) → ℕ
many_longer l phases = sum_by (λ phase. on (nat_lt l phase.0) phase.1) phases

-- the list has the phases that the core offers: of each length as many, in whatever order and entries
abbrev pub Offers : Plan → ℕ → ℕ → List (ℕ × ℕ) → Type 0
Offers plan core w phases = (l : ℕ) → many_longer l phases ≡ longer plan core w l

-- the list itself, of the tasks below a place: the A phases and the R phases of each task of the core once, with their number
abbrev pub offers_below : Plan → ℕ → ℕ → ℕ → List (ℕ × ℕ)
offers_below plan core w zero = []
offers_below plan core w (suc place) =
    cond ((plan.row place).core == core)
    (((plan.row place).a, offered core w (plan.row place)) ∷ ((plan.row place).r, offered core w (plan.row place)) ∷ offers_below plan core w place)
    (offers_below plan core w place)
