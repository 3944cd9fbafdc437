-- A cap as a limit. Assumes nothing.
use Rattle.tasks.specs.Limits.{Limit}
use Rattle.demand.specs.declared.cap.Cap.{Cap}

abbrev pub limit_of : Cap → Limit
limit_of cap = cap.left
