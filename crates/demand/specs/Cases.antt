-- A case as the definitions of demand and outcome see it. Assumes nothing.
use Rattle.std.specs.Prelude.{ℕ}
use Rattle.tasks.specs.Limits.{Limit}
use Rattle.argument.specs.Plans.{Plan, plan_of}
use Rattle.demand.specs.declared.case.Case.{Case}
use Rattle.demand.specs.Rows.{rows_of, row_at}

-- the plan of its tasks, on as many cores as the arbiter has ports
abbrev pub plan : {B : Type 0} {arbiter : _} → Case B arbiter → Plan
plan {arbiter = arbiter} case = plan_of (arbiter.means.meaning case.arbiter.now).ports (rows_of case.tasks.now)

-- the arbiter's limits
abbrev pub limits : {B : Type 0} {arbiter : _} → Case B arbiter → ℕ → ℕ → Limit
limits {arbiter = arbiter} case = (arbiter.means.meaning case.arbiter.now).limit

-- the core of the task
abbrev pub own_core : {B : Type 0} {arbiter : _} → Case B arbiter → ℕ
own_core case = (row_at (rows_of case.tasks.now) case.place).core
