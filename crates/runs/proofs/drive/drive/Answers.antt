use Rattle.std.proofs.Common.{◌≡◌, length, sym, subst, arith}
use Rattle.argument.specs.Plans.{Plan}
use Rattle.bridge.specs.Moments.{finishes}
use Rattle.bridge.specs.Runs.{run}
use Rattle.runs.specs.Shown.{At, script_of}
use Rattle.runs.proofs.Soon.{SoonOf, soon_of}
use Rattle.runs.proofs.Driving.{Driven, Moved, driven_over, driven_more, later, pool}
use Rattle.runs.proofs.Stepping.{at_released, at_acted, moved}
use Rattle.runs.proofs.drive.drive.Given.{Over}
use Rattle.runs.proofs.drive.drive.Goals.{After-release_due, After-next_moment}
use Rattle.runs.proofs.drive.drive.Goals as goal

pub returns-in_err-finish_all-clause-inside : goal.returns-in_err-finish_all-clause-inside
returns-in_err-finish_all-clause-inside g c = c.in_err-finish_all.ensures.keeps (length c.args.jobs.now) c.loop-ready.invariant.1

pub returns-in_err-finish_all-clause-ran : goal.returns-in_err-finish_all-clause-ran
returns-in_err-finish_all-clause-ran g c = λ P a. (
    let d = c.loop-ready.invariant.0 P a in
    absurd (c.in_err-finish_all.ensures.goes P c.args.jobs.now c.args.arb.now _ _ d.at))

-- after step 2
released : (g : Over) (c : After-release_due g) (P : Plan) (d : Driven g.B.Arbiter.means P c.args.jobs.now c.args.arb.now c.loop-ready.time c.loop-ready.released c.loop-ready.stages c.loop-ready.ready.items.items c.loop-ready.log c.loop-ready.arb)
    → At g.B.Arbiter.means P c.args.jobs.now c.args.arb.now c.finish_all.new.arb c.loop-ready.time c.finish_all.new.stages (pool c.release_due.new.ready.items.items c.release_due.result) c.loop-ready.log (finishes (length c.loop-ready.stages) (run P (script_of c.args.jobs.now) d.choices c.loop-ready.time))
released g c P d =
    let h = c.in_ok-finish_all.ensures.goes P c.args.jobs.now c.args.arb.now _ _ d.at in
    at_released (c.release_due.ensures.pooled P _ h.fetched (sym h.shows.now)) h

pub act_all-requires-clause-released : goal.act_all-requires-clause-released
act_all-requires-clause-released g c =
    let b = c.requires.begins in
    c.release_due.ensures.all b.0 (c.loop-ready.invariant.0 b.0 b.1).at.lawful

pub returns-in_err-act_all-clause-ran : goal.returns-in_err-act_all-clause-ran
returns-in_err-act_all-clause-ran g c = λ P a. (
    let h = released g (goal.at.returns-in_err-act_all-clause-ran g c).After-release_due P (c.loop-ready.invariant.0 P a) in
    absurd (c.in_err-act_all.ensures.goes P c.args.arb.now _ h))

pub grant-requires-clause-stands : goal.grant-requires-clause-stands
grant-requires-clause-stands g c =
    let b = c.requires.begins in
    let h = released g (goal.at.grant-requires-clause-stands g c).After-release_due b.0 (c.loop-ready.invariant.0 b.0 b.1) in
    (at_acted g.met.B.Arbiter.lawful (c.in_ok-act_all.ensures.goes b.0 c.args.arb.now _ h)).0

pub grant-requires-clause-ports : goal.grant-requires-clause-ports
grant-requires-clause-ports g c =
    let b = c.requires.begins in
    let h = released g (goal.at.grant-requires-clause-ports g c).After-release_due b.0 (c.loop-ready.invariant.0 b.0 b.1) in
    (at_acted g.met.B.Arbiter.lawful (c.in_ok-act_all.ensures.goes b.0 c.args.arb.now _ h)).1

-- after step 4
granted : (g : Over) (c : After-next_moment g) (P : Plan) (d : Driven g.B.Arbiter.means P c.args.jobs.now c.args.arb.now c.loop-ready.time c.loop-ready.released c.loop-ready.stages c.loop-ready.ready.items.items c.loop-ready.log c.loop-ready.arb)
    → At g.B.Arbiter.means P c.args.jobs.now c.args.arb.now c.finish_all.new.arb c.loop-ready.time c.finish_all.new.stages (pool c.release_due.new.ready.items.items c.release_due.result) c.loop-ready.log (finishes (length c.loop-ready.stages) (run P (script_of c.args.jobs.now) d.choices c.loop-ready.time))
    → Moved g.B.Arbiter.means P c.args.jobs.now c.args.arb.now c.loop-ready.time c.release_due.result c.grant.new.stages c.act_all.new.ready.items.items c.grant.new.log c.grant.new.arb
granted g c P d h =
    moved d (omega arith) (c.release_due.ensures.all P h.lawful)
    (c.grant.ensures.goes P c.args.arb.now _ _ (rw (sym cores) at (c.in_ok-act_all.ensures.goes P c.args.arb.now _ h)))
  where
    cores : length c.loop-ready.stages ≡ c.args.cores
    cores = omega arith

soon : (g : Over) (c : After-next_moment g) → SoonOf c.args.jobs.now c.release_due.result c.grant.new.log c.grant.new.stages c.next_moment.result
soon g c = rw c.next_moment.ensures (soon_of c.args.jobs.now c.release_due.result c.grant.new.log c.grant.new.stages)

pub loop-ready-smaller : goal.loop-ready-smaller
loop-ready-smaller g c =
    let b = c.requires.begins in
    let d = c.loop-ready.invariant.0 b.0 b.1 in
    let q = goal.at.loop-ready-smaller g c in
    let w = granted g q.After-next_moment b.0 d (released g q.After-release_due b.0 d) in
    let s = rw c.in-Some.is at (soon g q.After-next_moment) in
    omega (arith, later g.met.B.Arbiter.lawful w c.in-Some.next s, (driven_more g.met.B.Arbiter.lawful w c.in-Some.next s c.requires.short c.requires.few).early)

pub loop-ready-preserved : goal.loop-ready-preserved
loop-ready-preserved g c =
    let q = goal.at.loop-ready-preserved g c in (
      λ P a. (
          let d = c.loop-ready.invariant.0 P a in
          let w = granted g q.After-next_moment P d (released g q.After-release_due P d) in
          subst (λ time. Driven g.B.Arbiter.means P c.args.jobs.now c.args.arb.now time c.release_due.result c.grant.new.stages c.act_all.new.ready.items.items c.grant.new.log c.grant.new.arb) (omega arith)
          (driven_more g.met.B.Arbiter.lawful w c.in-Some.next (rw c.in-Some.is at (soon g q.After-next_moment)) c.requires.short c.requires.few)),
      c.grant.ensures.inside,
      c.in_ok-act_all.ensures.below,
      c.release_due.ensures.within,
      omega (arith, c.release_due.ensures.kept, c.in_ok-act_all.ensures.len),
      omega (arith, c.loop-ready.invariant.5, c.release_due.ensures.room, c.in_ok-act_all.ensures.room),
    )

pub returns-in-None-clause-ran : goal.returns-in-None-clause-ran
returns-in-None-clause-ran g c = λ P a. (
    let q = goal.at.returns-in-None-clause-ran g c in
    let d = c.loop-ready.invariant.0 P a in
    let w = granted g q.After-next_moment P d (released g q.After-release_due P d) in
    driven_over g.met.B.Arbiter.lawful w (rw c.in-None.is at (soon g q.After-next_moment)))
