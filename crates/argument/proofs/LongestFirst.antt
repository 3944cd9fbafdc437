-- The longest first, of a list that falls, total the share.
use Rattle.std.proofs.Common.{◌≡◌, ℕ, zero, suc, ◌+◌, ◌<◌, ◌≤◌, max, eqb, ltb, List, [], ◌∷◌, sym, refl, ap, ◌∙◌, inl, inr, arith}
use Rattle.std.proofs.lemmas.List.Sums.{sum_by-cons}
use Rattle.std.proofs.lemmas.List.Sorted.{sum_by-IsPermutation}
use Rattle.std.proofs.lemmas.Bool.{cond_both, cases_lt, lt-ltb, le-ltb}
use Rattle.tasks.specs.Limits.{capped, Limit}
use Rattle.argument.specs.Sums.{sum, on}
use Rattle.argument.specs.Plans.{Plan}
use Rattle.argument.specs.Demand.{offered, longer, longest, share}
use Rattle.argument.specs.LongestFirst.{less, taken, NoneLonger, Falling, many_longer, offers_below}
use Rattle.argument.specs.Theorems.{LongestFirstReachesTheShare, TheOfferedPhasesInAnyOrder}
use Rattle.argument.proofs.Sums.{sum_zero, sum_eq, sum_add, sum_split}
use Rattle.argument.proofs.Counts.{on_le, on_true, on_false}
use Rattle.argument.proofs.Shares.{layers, longer_none}

-- the first entry and the rest
many_cons : (l length many : ℕ) (rest : List (ℕ × ℕ)) → many_longer l ((length, many) ∷ rest) ≡ on (ltb l length) many + many_longer l rest
many_cons l length many rest = sum_by-cons (λ phase. on (ltb l phase.0) phase.1) (length, many) rest

none_longer : (phases : List (ℕ × ℕ)) (most l : ℕ) → NoneLonger most phases → most ≤ l → many_longer l phases ≡ 0
none_longer [] most l h k = refl
none_longer ((length, many) ∷ rest) most l h k = grind (arith, many_cons l length many rest, none_longer rest most l)

capped_none : (limit : Limit) → capped limit 0 ≡ 0
capped_none limit = grind arith

-- the front first, then what the limit still lets through
capped_add : (limit : Limit) (m n : ℕ) → capped limit (m + n) ≡ capped limit m + capped (less limit m) n
capped_add limit m n = grind arith

most_up : (m k : ℕ) (phases : List (ℕ × ℕ)) → NoneLonger m phases → m ≤ k → NoneLonger k phases
most_up m k [] h l = tt
most_up m k (phase ∷ rest) h l = grind (arith, most_up m k rest)

-- tick by tick of length
by_layers : (phases : List (ℕ × ℕ)) (limit : Limit) (most : ℕ) → Falling phases → NoneLonger most phases
    → taken limit phases ≡ sum most (λ l. capped limit (many_longer l phases))
by_layers [] limit most f m = sym (sum_zero most (λ l. capped limit 0) (λ l _. capped_none limit))
by_layers ((length, many) ∷ rest) limit most f m =
    omega (
      arith,
      by_layers rest (less limit many) most f.1 m.1,
      layers most length (capped limit many) m.0,
      sum_add most (λ l. on (ltb l length) (capped limit many)) (λ l. capped (less limit many) (many_longer l rest)),
      sum_eq most (λ l. capped limit (many_longer l ((length, many) ∷ rest)))
          (λ l. on (ltb l length) (capped limit many) + capped (less limit many) (many_longer l rest)) each,
    )
  where
    each : (l : ℕ) → l < most → capped limit (many_longer l ((length, many) ∷ rest))
        ≡ on (ltb l length) (capped limit many) + capped (less limit many) (many_longer l rest)
    each l _ =
        elim (cases_lt l length) [
          | inl b ↦
              ap (capped limit) (many_cons l length many rest ∙ ap (λ n. n + many_longer l rest) (on_true _ many (lt-ltb _ _ b)))
              ∙ capped_add limit many (many_longer l rest)
              ∙ ap (λ n. n + capped (less limit many) (many_longer l rest)) (sym (on_true _ (capped limit many) (lt-ltb _ _ b)))
          | inr b ↦
              let z = none_longer rest length l f.0 b in
              let y : many_longer l ((length, many) ∷ rest) ≡ 0 = omega (arith, many_cons l length many rest, on_false _ many (le-ltb _ _ b), z) in
              omega (
                arith,
                on_false _ (capped limit many) (le-ltb _ _ b),
                ap (capped limit) y,
                ap (capped (less limit many)) z,
                capped_none limit,
                capped_none (less limit many),
              )
        ]

-- the share, reckoned higher than the longest phase
layers_more : (plan : Plan) (core w : ℕ) (limit : Limit) (extra : ℕ) → sum (longest plan + extra) (λ l. capped limit (longer plan core w l)) ≡ share plan core w limit
layers_more plan core w limit extra =
    omega (
      arith,
      sum_split (longest plan) extra (λ l. capped limit (longer plan core w l)),
      sum_zero extra (λ l. capped limit (longer plan core w (longest plan + l))) (λ l _. grind (arith, longer_none, capped_none)),
    )

most : List (ℕ × ℕ) → ℕ
most [] = 0
most ((length, many) ∷ rest) = max length (most rest)

none_above_most : (phases : List (ℕ × ℕ)) → NoneLonger (most phases) phases
unfolding most
none_above_most [] = tt
none_above_most ((length, many) ∷ rest) = grind (arith, most_up, none_above_most rest)

pub longest_first : LongestFirstReachesTheShare
longest_first plan core w limit phases falling offers =
    let height = longest plan + most phases in
    by_layers phases limit height falling (most_up (most phases) height phases (none_above_most phases) (omega arith))
    ∙ sum_eq height (λ l. capped limit (many_longer l phases)) (λ l. capped limit (longer plan core w l)) (λ l _. ap (capped limit) (offers l))
    ∙ layers_more plan core w limit (most phases)

-- the list of the offered phases has them
offers_below_lem : (plan : Plan) (core w l n : ℕ) → many_longer l (offers_below plan core w n)
    ≡ sum n (λ u. on (ltb l (plan.row u).a) (offered core w (plan.row u)) + on (ltb l (plan.row u).r) (offered core w (plan.row u)))
offers_below_lem plan core w l zero = refl
offers_below_lem plan core w l (suc n) =
    cond_both (eqb (plan.row n).core core) (((plan.row n).a, k) ∷ ((plan.row n).r, k) ∷ rest) rest
    (λ phases. many_longer l phases ≡ sum n each + each n)
    (λ _. omega (arith, many_cons l (plan.row n).a k (((plan.row n).r, k) ∷ rest), many_cons l (plan.row n).r k rest, offers_below_lem plan core w l n))
    (λ e. let none : k ≡ 0 = on_false _ _ e in
    omega (arith, offers_below_lem plan core w l n, none, on_le (ltb l (plan.row n).a) k, on_le (ltb l (plan.row n).r) k))
  where
    k : ℕ
    k = offered core w (plan.row n)

    rest : List (ℕ × ℕ)
    rest = offers_below plan core w n

    each : ℕ → ℕ
    each u = on (ltb l (plan.row u).a) (offered core w (plan.row u)) + on (ltb l (plan.row u).r) (offered core w (plan.row u))

pub any_order : TheOfferedPhasesInAnyOrder
any_order plan core w phases shuffled l =
    sum_by-IsPermutation (λ phase. on (ltb l phase.0) phase.1) (offers_below plan core w plan.size) phases shuffled
    ∙ offers_below_lem plan core w l plan.size
