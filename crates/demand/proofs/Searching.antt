-- The search passes over no covering number, since demand never falls.
use Rattle.std.proofs.Common.{ℕ, ◌≤◌, inl, inr, arith}
use Rattle.std.proofs.lemmas.Bool.{cases_lt}
use Rattle.tasks.specs.Limits.{Limit}
use Rattle.argument.specs.Plans.{Plan}
use Rattle.argument.specs.Demand.{demand, NoneBelow}
use Rattle.argument.proofs.Least.{jump}

-- from w, up to its demand
pub none_further : (plan : Plan) (limits : ℕ → ℕ → Limit) (place w end : ℕ)
    → NoneBelow plan limits place w → end ≤ demand plan limits place w → NoneBelow plan limits place end
none_further plan limits place w end none far v some below covers = elim (cases_lt v w) [
  | inl before ↦ none v some before covers
  | inr after ↦ omega (arith, jump plan limits place w v after covers)
]
