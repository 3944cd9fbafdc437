-- The phases that tasks offer, the order in which they are kept, and those of one core. Assumes nothing.
use Rattle.std.specs.Prelude.{◌≡◌, ℕ, zero, suc, ◌+◌, cond, List, [], ◌∷◌, ◌==◌, refl}
use Rattle.std.specs.declared.cmp.Ordering.{Ordering}
use Rattle.std.specs.Cmp.{IsTotalOrder}
use Rattle.std.specs.Ordering.{nat_cmp, ordering_then}
use Rattle.roster.specs.Order.{insert_by}
use Rattle.tasks.specs.declared.task.Row.{Row}
use Rattle.argument.specs.Sums.{ceil}
use Rattle.demand.specs.contracts.offer.OfferOrd.TheImpl.{ghosts}
use Rattle.demand.specs.contracts.offer.OfferOrd.TheImpl.Laws.{lawful}
use Rattle.demand.specs.contracts.offer.PhaseOrd.TheImpl.{ghosts as phases}
use Rattle.demand.specs.declared.offer.Offer.{Offer}
use Rattle.demand.specs.declared.offer.Phase.{Phase}
use Rattle.demand.specs.declared.offer.Phase.TheVariants.{A, R}

-- all phases of one kind that the task at a place offers; how many there are follows from its spacing and deadline
pub record Listed : Type 0 where
  pub length : ℕ
  pub place : ℕ
  pub core : ℕ
  pub phase : Phase
  pub spacing : ℕ
  pub deadline : ℕ

abbrev pub listed : Offer → Listed
listed offer = record { length = offer.length.0; place = offer.place; core = offer.core; phase = offer.phase; spacing = offer.spacing; deadline = offer.deadline }

-- by falling length, then in plan order, then A before R; the rest never decides between two offers of a plan
abbrev pub keeping : Listed → Listed → Ordering
keeping x y =
    ordering_then (nat_cmp y.length x.length)
    (ordering_then (nat_cmp x.place y.place)
    (ordering_then (phases.cmp x.phase y.phase)
    (ordering_then (nat_cmp x.core y.core)
    (ordering_then (nat_cmp x.spacing y.spacing) (nat_cmp x.deadline y.deadline)))))

-- the order of the code's offers is that of what they list,
abbrev pub offer_cmp : Offer → Offer → Ordering
offer_cmp x y = keeping (listed x) (listed y)

pub derived_offer_cmp : (x y : Offer) → ghosts.cmp x y ≡ offer_cmp x y
derived_offer_cmp x y = refl

-- and it is total
pub offer_order : IsTotalOrder offer_cmp
offer_order = lawful.total

abbrev pub length_of : Phase → Row → ℕ
length_of A row = row.a
length_of R row = row.r

abbrev pub listing : Row → ℕ → Phase → Listed
listing row place phase =
    record { length = length_of phase row; place = place; core = row.core; phase = phase; spacing = row.spacing; deadline = row.deadline }

-- what the tasks at the first places offer, in the order in which it is kept
abbrev pub kept : (ℕ → Row) → ℕ → List Listed
kept row zero = []
kept row (suc place) = insert_by keeping (listing (row place) place R) (insert_by keeping (listing (row place) place A) (kept row place))

-- what the tasks of one core offer
abbrev pub of_core : ℕ → List Listed → List Listed
of_core core [] = []
of_core core (l ∷ rest) = cond (l.core == core) (l ∷ of_core core rest) (of_core core rest)

-- the lengths, each with the number of phases within w ticks: ⌈(w + D) / T⌉
abbrev pub phases_in : ℕ → List Listed → List (ℕ × ℕ)
phases_in w [] = []
phases_in w (l ∷ rest) = (l.length, ceil (w + l.deadline) l.spacing) ∷ phases_in w rest
