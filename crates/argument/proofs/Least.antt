-- Demand never falls as the window grows, and the search for a window meets no covering number before the one it stops at.
use Rattle.std.proofs.Common.{ℕ, zero, suc, ◌+◌, ◌<◌, ◌≤◌, cond, not, eqb, ltb, leb, refl, inl, inr, mul-le-mul_left, arith}
use Rattle.std.proofs.lemmas.Bool.{cond_both, ltb-true, ltb-false, leb-true, leb-false, cases_lt}
use Rattle.tasks.specs.Limits.{times, capped, Limit}
use Rattle.tasks.specs.declared.task.Row.{Row}
use Rattle.tasks.specs.Rows.{cost}
use Rattle.argument.specs.Sums.{ceil}
use Rattle.tasks.specs.declared.outcome.Outcome.TheVariants.{Window, Late}
use Rattle.argument.specs.Plans.{Plan, level}
use Rattle.argument.specs.Jumps.{searched}
use Rattle.argument.specs.Theorems.{DemandNeverFalls, AJumpPassesNoCoveringNumber, JumpingEndsAtTheOutcome, TheOutcomeIsFixed}
use Rattle.argument.specs.Demand.{shares, NoneBelow, Settles, jobs, own, turns, offered, longer, share, demand}
use Rattle.argument.proofs.Sums.{sum_le}
use Rattle.argument.proofs.Exchange.{on_mono}

pub ceil_mono : (v w t : ℕ) → v ≤ w → ceil v t ≤ ceil w t
ceil_mono v w t h = grind arith

jobs_mono : (task : Row) (v w : ℕ) (other : Row) → v ≤ w → jobs task v other ≤ jobs task w other
jobs_mono task v w other h = on_mono (level task other) _ _ (λ _. ceil_mono v w other.spacing h)

own_mono : (plan : Plan) (task : Row) (v w : ℕ) → v ≤ w → own plan task v ≤ own plan task w
own_mono plan task v w h = sum_le plan.size _ _ (λ u _. mul-le-mul_left (cost (plan.row u)) (jobs_mono task v w (plan.row u) h))

turns_mono : (plan : Plan) (task : Row) (v w : ℕ) → v ≤ w → turns plan task v ≤ turns plan task w
turns_mono plan task v w h = grind (arith, sum_le, jobs_mono)

offered_mono : (core v w : ℕ) (other : Row) → v ≤ w → offered core v other ≤ offered core w other
offered_mono core v w other h = grind (arith, on_mono, ceil_mono)

longer_mono : (plan : Plan) (core v w l : ℕ) → v ≤ w → longer plan core v l ≤ longer plan core w l
longer_mono plan core v w l h = grind (arith, sum_le, on_mono, offered_mono)

capped_mono : (limit : Limit) (k m x y : ℕ) → k ≤ m → x ≤ y → capped (times k limit) x ≤ capped (times m limit) y
capped_mono limit k m x y h i = grind arith

share_mono : (plan : Plan) (limit : Limit) (core k m v w : ℕ) → k ≤ m → v ≤ w → share plan core v (times k limit) ≤ share plan core w (times m limit)
share_mono plan limit core k m v w h l = grind (arith, sum_le, capped_mono, longer_mono)

shares_mono : (plan : Plan) (limits : ℕ → ℕ → Limit) (task : Row) (v w : ℕ) → v ≤ w → shares plan limits task v ≤ shares plan limits task w
shares_mono plan limits task v w h = sum_le plan.cores _ _ (λ b _. on_mono (not (eqb b task.core)) _ _
    (λ _. share_mono plan (limits task.core b) b (turns plan task v) (turns plan task w) v w (turns_mono plan task v w h) h))

pub demand_mono : DemandNeverFalls
demand_mono = grind (arith, own_mono, shares_mono)

pub jump : AJumpPassesNoCoveringNumber
jump plan limits place w v l covers = omega (arith, demand_mono plan limits place w v l)

-- the search from w, with jumps enough to pass the deadline, and nothing that covers below w
from : (plan : Plan) (limits : ℕ → ℕ → Limit) (place jumps w : ℕ) → 1 ≤ w → (plan.row place).deadline < jumps + w → NoneBelow plan limits place w
    → Settles plan limits place (searched plan limits place jumps w)
from plan limits place zero w some enough none = (λ v a b. none v a (omega arith), refl)
from plan limits place (suc jumps) w some enough none =
    cond_both (ltb D w) (Late (demand plan limits place D))
    (cond (leb (demand plan limits place w) w) (Window w) (searched plan limits place jumps (demand plan limits place w))) (Settles plan limits place)
    (λ past. (λ v a b. none v a (omega (arith, ltb-true _ _ past)), refl))
    (λ inside. cond_both (leb (demand plan limits place w) w) (Window w) (searched plan limits place jumps (demand plan limits place w)) (Settles plan limits place)
    (λ covers. (record { some = some; in_time = ltb-false _ _ inside; covers = leb-true _ _ covers }, none))
    (λ beyond. let more = leb-false _ _ beyond in
    from plan limits place jumps (demand plan limits place w) (omega arith) (omega arith)
    (λ v a b. elim (cases_lt v w) [
      | inl before ↦ none v a before
      | inr after ↦ λ c. omega (arith, jump plan limits place w v after c)
    ])))
  where
    D : ℕ
    D = (plan.row place).deadline

pub jumping_settles : JumpingEndsAtTheOutcome
jumping_settles plan limits place = from plan limits place (plan.row place).deadline 1 (omega arith) (omega arith) (λ v a b. absurd (nothing v a b))
  where
    nothing : (v : ℕ) → 1 ≤ v → v < 1 → ⊥
    nothing v a b = omega arith

-- of two least numbers neither is below the other
pub one_outcome : TheOutcomeIsFixed
one_outcome = grind arith
