-- Some choice totals the share: all phases that are longer than a certain length, and some of just that length.
use Rattle.std.proofs.Common.{◌≡◌, ℕ, zero, suc, ◌+◌, ◌-◌, ◌<◌, ◌≤◌, min, eqb, ltb, ◌∙◌, inl, inr, arith, Some, None}
use Rattle.std.proofs.lemmas.Bool.{cases_lt}
use Rattle.tasks.specs.Limits.{Limit}
use Rattle.argument.specs.Sums.{sum, on}
use Rattle.argument.specs.Plans.{Plan}
use Rattle.argument.specs.Demand.{offered, Choice, total, longer, longest, share}
use Rattle.argument.specs.Theorems.{TheShareIsTheGreatestTotalOfAnyChoice}
use Rattle.argument.proofs.Searches.{first_or}
use Rattle.argument.proofs.Sums.{sum_le, sum_eq, sum_add}
use Rattle.argument.proofs.Exchange.{on_sub}
use Rattle.argument.proofs.Shares.{part, total_layers, longer_none, choice_le_share}

-- m taken from c 0, c 1, .. in this order
abbrev fill : (ℕ → ℕ) → ℕ → ℕ → ℕ
fill c m k = min (c k) (m - sum k c)

sum_fill : (n : ℕ) (c : ℕ → ℕ) (m : ℕ) → sum n (fill c m) ≡ min m (sum n c)
sum_fill zero c m = omega arith
sum_fill (suc n) c m = grind (arith, sum_fill n c m)

-- the first l with N l ≤ cap
first : (N : ℕ → ℕ) (cap M : ℕ) → N M ≤ cap → (θ : ℕ) × (N θ ≤ cap) × ((l : ℕ) → l < θ → cap < N l)
first N cap M h =
    elim (first_or M (λ l. cap < N l) (λ l. N l ≤ cap) (λ l. cases_lt cap (N l))) [
      | inl x ↦ (M, h, x)
      | inr x ↦ (x.0, x.2, x.3)
    ]

-- phases of the lengths ℓ 0, ℓ 1, .., and c k of the length ℓ k
module _ (ℓ c : ℕ → ℕ) where
  -- those longer than l
  abbrev above : ℕ → ℕ → ℕ
  above l k = on (ltb l (ℓ k)) (c k)

  -- those of the length θ
  abbrev exact : ℕ → ℕ → ℕ
  exact θ k = on (eqb (ℓ k) θ) (c k)

  -- all that are longer than θ, and m of the length θ
  abbrev pick : ℕ → ℕ → ℕ → ℕ
  pick θ m k = above θ k + fill (exact θ) m k

  pick_le : (θ m k : ℕ) → pick θ m k ≤ c k
  pick_le θ m k = grind arith

  pick_sum : (n θ m : ℕ) → sum n (pick θ m) ≡ sum n (above θ) + min m (sum n (exact θ))
  pick_sum n θ m = omega (arith, sum_add n (above θ) (fill (exact θ) m), sum_fill n (exact θ) m)

  -- from θ on, what is picked is all that is longer
  pick_long : (θ m l k : ℕ) → θ ≤ l → on (ltb l (ℓ k)) (pick θ m k) ≡ above l k
  pick_long θ m l k h = grind arith

  -- below θ, all that is picked is longer
  pick_all : (θ m l k : ℕ) → l < θ → on (ltb l (ℓ k)) (pick θ m k) ≡ pick θ m k
  pick_all θ m l k h = grind arith

  -- a step down adds those of just that length
  step : (n θ : ℕ) → sum n (above θ) ≡ sum n (above (suc θ)) + sum n (exact (suc θ))
  step n θ = grind (arith, sum_eq n (above θ) (λ k. above (suc θ) k + exact (suc θ) k), sum_add n (above (suc θ)) (exact (suc θ)))

  falls : (n θ l : ℕ) → θ ≤ l → sum n (above l) ≤ sum n (above θ)
  falls n θ l h = grind (arith, sum_le, on_sub)

module _ (plan : Plan) (core w : ℕ) where
  abbrev n : ℕ
  n = plan.size

  abbrev a : ℕ → ℕ
  a u = (plan.row u).a

  abbrev r : ℕ → ℕ
  r u = (plan.row u).r

  abbrev offer : ℕ → ℕ
  offer u = offered core w (plan.row u)

  abbrev Has : Limit → Type 0
  Has limit = (x : ℕ → ℕ) × (y : ℕ → ℕ) × Choice plan core w limit x y × (total plan x y ≡ share plan core w limit)

  kinds : (l : ℕ) → longer plan core w l ≡ sum n (above a offer l) + sum n (above r offer l)
  kinds l = sum_add n (above a offer l) (above r offer l)

  -- all longer than θ, and m of the length θ: first A phases, then R phases
  module _ (cap θ m : ℕ) (room : m ≤ sum n (exact a offer θ) + sum n (exact r offer θ)) (fits : longer plan core w θ + m ≤ cap)
      (full : (l : ℕ) → l < θ → (cap ≤ longer plan core w θ + m) × (cap < longer plan core w l)) where
    abbrev x : ℕ → ℕ
    x = pick a offer θ m

    abbrev y : ℕ → ℕ
    y = pick r offer θ (m - sum n (exact a offer θ))

    all_picked : sum n (λ u. x u + y u) ≡ longer plan core w θ + m
    all_picked = omega (arith, sum_add n x y, pick_sum a offer n θ m, pick_sum r offer n θ (m - sum n (exact a offer θ)), kinds θ)

    layer : (l : ℕ) → sum n (part plan x y l) ≡ min cap (longer plan core w l)
    layer l =
        elim (cases_lt l θ) [
          | inl b ↦ omega (
            arith,
            sum_eq n (part plan x y l) (λ u. x u + y u)
                (λ u _. omega (arith, pick_all a offer θ m l u b, pick_all r offer θ (m - sum n (exact a offer θ)) l u b)),
            all_picked,
            full l b,
          )
          | inr b ↦ omega (
            arith,
            sum_eq n (part plan x y l) (λ u. above a offer l u + above r offer l u)
                (λ u _. omega (arith, pick_long a offer θ m l u b, pick_long r offer θ (m - sum n (exact a offer θ)) l u b)),
            kinds l,
            kinds θ,
            falls a offer n θ l b,
            falls r offer n θ l b,
          )
        ]

    at : Has (Some cap)
    at = (
      x,
      y,
      record {
        some_a = λ u _. pick_le a offer θ m u;
        some_r = λ u _. pick_le r offer θ (m - sum n (exact a offer θ)) u;
        few = omega (arith, all_picked);
      },
      total_layers plan x y ∙ sum_eq (longest plan) (λ l. sum n (part plan x y l)) (λ l. min cap (longer plan core w l)) (λ l _. layer l),
    )

  under : (cap θ : ℕ) → longer plan core w θ ≤ cap → ((l : ℕ) → l < θ → cap < longer plan core w l) → Has (Some cap)
  under cap zero low high = at cap 0 0 (omega arith) (omega arith) (λ l b. absurd (nothing l b))
    where
      nothing : (l : ℕ) → l < 0 → ⊥
      nothing l b = omega arith
  under cap (suc θ) low high = at cap (suc θ) (cap - longer plan core w (suc θ))
      (omega (arith, high θ (omega arith), kinds θ, kinds (suc θ), step a offer n θ, step r offer n θ))
      (omega arith) (λ l b. (omega arith, high l b))

  has : (limit : Limit) → Has limit
  has (Some cap) =
      let f = first (longer plan core w) cap (longest plan) (omega (arith, longer_none plan core w (longest plan) (omega arith))) in
      under cap f.0 f.1 f.2
  has None = (offer, offer, record { some_a = λ u _. omega arith; some_r = λ u _. omega arith; few = tt }, total_layers plan offer offer)

pub share_greatest : TheShareIsTheGreatestTotalOfAnyChoice
share_greatest plan core w limit =
    let x = has plan core w limit in
    record { fetched = x.0; written = x.1; choice = x.2; reached = x.3; no_more = choice_le_share plan core w limit }
