use Rattle.settler.proofs.Standing.{loads_as_itself}
use Rattle.settler.proofs.theorems.a_saved_plan_loads_as_itself.Goals as goal

pub returns : goal.returns
returns c = loads_as_itself c.args.plan.now
