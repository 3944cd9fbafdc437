-- Totals by lengths: no choice totals more than the share.
use Rattle.std.proofs.Common.{◌≡◌, ℕ, zero, suc, ◌+◌, ◌*◌, ◌<◌, ◌≤◌, max, ltb, ap, ◌∙◌, inl, inr, arith}
use Rattle.std.proofs.lemmas.Bool.{cases_lt}
use Rattle.tasks.specs.Limits.{Limit}
use Rattle.argument.specs.Sums.{sum, on}
use Rattle.argument.specs.Plans.{Plan}
use Rattle.argument.specs.Demand.{Choice, total, longer, longest, share}
use Rattle.argument.proofs.Limits.{within_less, within_capped}
use Rattle.argument.proofs.Sums.{sum_zero, sum_le, sum_eq, sum_add, sum_swap}
use Rattle.argument.proofs.Counts.{on_le, on_false}
use Rattle.argument.proofs.Exchange.{on_mono, greatest_point}

layers_below : (M a x : ℕ) → M ≤ a → sum M (λ l. on (ltb l a) x) ≡ M * x
layers_below zero a x h = omega arith
layers_below (suc M) a x h = grind (arith, layers_below M a x)

pub layers : (M a x : ℕ) → a ≤ M → sum M (λ l. on (ltb l a) x) ≡ a * x
layers zero a x h = let e : a ≡ 0 = omega arith in omega (arith, ap (λ z. z * x) e)
layers (suc M) a x h =
    elim (cases_lt M a) [
      | inl b ↦ let e : a ≡ suc M = omega arith in omega (arith, layers_below (suc M) a x b, ap (λ z. z * x) e)
      | inr b ↦ grind (arith, layers M a x b)
    ]

-- no phase is longer than the longest
pub longest_a : (plan : Plan) (u : ℕ) → u < plan.size → (plan.row u).a ≤ longest plan
longest_a plan u l = omega (arith, greatest_point plan.size (λ u. max (plan.row u).a (plan.row u).r) u l)

pub longest_r : (plan : Plan) (u : ℕ) → u < plan.size → (plan.row u).r ≤ longest plan
longest_r plan u l = omega (arith, greatest_point plan.size (λ u. max (plan.row u).a (plan.row u).r) u l)

pub longer_none : (plan : Plan) (core w l : ℕ) → longest plan ≤ l → longer plan core w l ≡ 0
longer_none plan core w l h = grind (arith, sum_zero, on_false, longest_a, longest_r)

-- of the phases of a choice, those of the task u that are longer than l
abbrev pub part : Plan → (ℕ → ℕ) → (ℕ → ℕ) → ℕ → ℕ → ℕ
part plan x y l u = on (ltb l (plan.row u).a) (x u) + on (ltb l (plan.row u).r) (y u)

-- the total by lengths
pub total_layers : (plan : Plan) (x y : ℕ → ℕ) → total plan x y ≡ sum (longest plan) (λ l. sum plan.size (part plan x y l))
total_layers plan x y =
    sum_eq plan.size (λ u. (plan.row u).a * x u + (plan.row u).r * y u) (λ u. sum (longest plan) (λ l. part plan x y l u)) apart
    ∙ sum_swap plan.size (longest plan) (λ u l. part plan x y l u)
  where
    apart : (u : ℕ) → u < plan.size → (plan.row u).a * x u + (plan.row u).r * y u ≡ sum (longest plan) (λ l. part plan x y l u)
    apart u l = omega (
      arith,
      layers (longest plan) (plan.row u).a (x u) (longest_a plan u l),
      layers (longest plan) (plan.row u).r (y u) (longest_r plan u l),
      sum_add (longest plan) (λ l. on (ltb l (plan.row u).a) (x u)) (λ l. on (ltb l (plan.row u).r) (y u)),
    )

pub choice_le_share : (plan : Plan) (core w : ℕ) (limit : Limit) (x y : ℕ → ℕ) → Choice plan core w limit x y → total plan x y ≤ share plan core w limit
choice_le_share plan core w limit x y choice = grind (arith, total_layers plan x y, sum_le, within_capped, within_less, on_mono, on_le)
