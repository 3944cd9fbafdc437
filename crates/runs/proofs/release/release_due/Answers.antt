use Rattle.std.proofs.Common.{◌<◌, length, vec_items, refl, arith}
use Rattle.runs.specs.Pool.{ready_order}
use Rattle.runs.proofs.Places.{job_from, pool_insert, below_more}
use Rattle.runs.proofs.release.release_due.Goals as goal

pub loop-job-preserved : goal.loop-job-preserved
loop-job-preserved c =
    let inv = c.loop-job.invariant in
    let J = c.args.jobs.now in
    let is = c.insert.ensures.items in
    let job = job_from J J c.args.upto c.loop-job.job-index c.loop-job.released refl inv.0 c.loop-job-test.true in
    let l : c.loop-job.released < length J = omega arith in (
      omega arith,
      omega arith,
      omega arith,
      below_more J (vec_items c.loop-job.ready.items) l job c.new.ensures is _ (omega arith) inv.3,
      λ P S f now h. pool_insert J (vec_items c.loop-job.ready.items) l job c.new.ensures is
          (f c.loop-job.released (omega arith)) (omega (arith, now, c.if-job-time.false)) (c.insert.ensures.rising ready_order) (inv.4 P S f now h),
    )
