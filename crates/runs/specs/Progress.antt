-- The program's record of a run shows a state of the run. Assumes nothing.
use Rattle.std.specs.Prelude.{◌≡◌, List, vec_items, vec_len}
use Rattle.argument.specs.Plans.{Plan}
use Rattle.bus.specs.Means.{Means}
use Rattle.bridge.specs.States.{State}
use Rattle.runs.specs.declared.progress.Progress.{Progress}
use Rattle.runs.specs.declared.rows.LogRow.{LogRow}
use Rattle.runs.specs.Pool.{Pool}
use Rattle.runs.specs.Shown.{At}

-- what a step of a moment leaves as it is: the jobs, the time, how many are released, and how many cores there are
pub record Stays (before after : Progress) : Type 0 where
  pub jobs : vec_items after.jobs ≡ vec_items before.jobs
  pub time : after.time ≡ before.time
  pub released : after.released ≡ before.released
  pub cores : vec_len after.stages ≡ vec_len before.stages

abbrev pub pool_of : Progress → Pool
pool_of p = record { ready = p.ready.items.items; upto = p.released }

-- The arbiter came from x, where it was idle, to y; the record and the log show S.
abbrev pub AtProgress : {X : Type 0} → Means X → Plan → X → X → Progress → List LogRow → State → Type 0
AtProgress means plan x y p log S = At means plan p.jobs.items x y p.time p.stages.items (pool_of p) log S
