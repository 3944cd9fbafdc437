use Rattle.bus.specs.Courses.{Course}
use Rattle.bus.proofs.Refused.{grant_sure}
use Rattle.round_robin.specs.Account.{round_meaning}
use Rattle.round_robin.proofs.TwoThenZero.{two_first, zero_waits, zero_second}
use Rattle.round_robin.proofs.example.two_then_zero.Goals as goal

pub returns-in_err-first-clause-order : goal.returns-in_err-first-clause-order
returns-in_err-first-clause-order c z = absurd (grant_sure (round_meaning c.args.ring.now) 0 _ (c.in_err-first.ensures.account tt) z.zero_waits z.served)

pub returns-in_err-second-clause-order : goal.returns-in_err-second-clause-order
returns-in_err-second-clause-order c z =
    let g = c.in_ok-first.ensures.account tt in
    let d = c.in_ok-done.ensures.account tt in
    absurd (grant_sure (round_meaning c.done.new.self) 0 _ (c.in_err-second.ensures.account tt) (zero_waits c.args.ring.now c.grant.new.self c.done.new.self _ z g d) d.served)

pub returns : goal.returns
returns c =
    let g = c.in_ok-first.ensures.account tt in
    let d = c.in_ok-done.ensures.account tt in
    let h = c.in_ok-second.ensures.account tt in record {
      course = Course.grant (Course.done (Course.grant Course.start g) d) h;
      order = λ z. (two_first c.args.ring.now c.grant.new.self _ z g, zero_second c.args.ring.now c.grant.new.self c.done.new.self c.grant-2.new.self _ _ z g d h);
    }
