use Rattle.std.proofs.Common.{◌≡◌, ℕ, ◌+◌, ◌<◌, ◌≤◌, vec_len, vec_capacity, length}
use Rattle.argument.specs.Plans.{Plan}
use Rattle.bridge.specs.States.{State}
use Rattle.runs.specs.Pool.{Pooled, RowsBelow}
use Rattle.runs.specs.Shown.{script_of, Fetched}
use Rattle.runs.proofs.release.release_due.Given as goal

abbrev pub invariant-loop-job : goal.invariant-loop-job
invariant-loop-job l =
    (l.released ≡ l.upto + l.job-index)
    × (vec_len l.ready.items ≤ l.released)
    × (vec_capacity l.initial.ready.items ≤ vec_capacity l.ready.items)
    × RowsBelow (length l.jobs) l.ready.items.items
    × ((P : Plan) (S : State) → ((k : ℕ) → k < length l.jobs → Fetched P l.jobs k) → S.now ≡ l.time
    → Pooled P (script_of l.jobs) (record { ready = l.initial.ready.items.items; upto = l.upto }) S
    → Pooled P (script_of l.jobs) (record { ready = l.ready.items.items; upto = l.released }) S)
