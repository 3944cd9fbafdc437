use Rattle.std.proofs.Common.{◌<◌, length, vec_items, sym, ap, ◌∙◌, inl, inr, arith}
use Rattle.runs.proofs.Places.{same_items}
use Rattle.runs.proofs.Acting.{acted_executed, acted_start, acted_none, acted_sure, acted_all}
use Rattle.runs.proofs.act.act_all.Goals.{then-has_executed+in_ok-join, else-has_executed+then-is_idle+in-Some+in_ok-join-2, else-has_executed+then-is_idle+in_default, else-has_executed+else-is_idle}
use Rattle.runs.proofs.act.act_all.Goals as goal

pub returns-in_err-join-clause-goes : goal.returns-in_err-join-clause-goes
returns-in_err-join-clause-goes g c =
    let l : c.loop-c.c < length c.loop-c.stages = omega arith in
    λ P x S a. absurd (acted_sure g.met.B.Arbiter.lawful c.requires.released c.loop-c.invariant.0 l c.in_err-join.field-0.0 (inl (sym c.has_executed.ensures ∙ c.if-has_executed.true)) c.in_err-join.ensures.account P x S a)

pub returns-in_err-join-2-clause-goes : goal.returns-in_err-join-2-clause-goes
returns-in_err-join-2-clause-goes g c =
    let l : c.loop-c.c < length c.loop-c.stages = omega arith in
    λ P x S a. absurd (acted_sure g.met.B.Arbiter.lawful c.requires.released c.loop-c.invariant.0 l c.in_err-join-2.field-0.0 (inr (sym c.is_idle.ensures ∙ c.if-is_idle.true)) c.in_err-join-2.ensures.account P x S a)

pub returns-in_err-join-2-clause-below : goal.returns-in_err-join-2-clause-below
returns-in_err-join-2-clause-below g c = c.in-Some.ensures.below _ c.loop-c.invariant.1

pub loop-c-preserved : goal.loop-c-preserved
loop-c-preserved g c =
    let l : c.loop-c.c < length c.loop-c.stages = omega arith in
    let inv = c.loop-c.invariant in
    elim c.if-has_executed.branch [
      | then-has_executed+in_ok-join w ↦ (
        acted_executed g.met.B.Arbiter.lawful c.requires.released inv.0 l
            (sym c.has_executed.ensures ∙ w.if-has_executed.true) w.on.ensures w.stages-is (ap (λ r. vec_items r.items) w.ready-is) w.log-is w.arb-is w.in_ok-join.ensures.account,
        rw w.ready-is inv.1,
        rw w.ready-is inv.2,
        rw w.ready-is inv.3,
      )
      | else-has_executed+then-is_idle+in-Some+in_ok-join-2 w ↦ (
        acted_start g.met.B.Arbiter.lawful c.requires.released inv.0 l w.in-Some.k
            (sym w.is_idle.ensures ∙ w.if-is_idle.true) w.in-Some.ensures.job (omega (arith, w.in-Some.ensures.row _ inv.1)) (omega arith) w.on-in-Some.ensures w.stages-is
            (ap (λ r. vec_items r.items) w.ready-is ∙ w.in-Some.ensures.items) w.log-is w.arb-is w.in_ok-join-2.ensures.account,
        rw w.ready-is (w.in-Some.ensures.below _ inv.1),
        rw w.ready-is (omega (arith, inv.2, w.in-Some.ensures.len)),
        rw w.ready-is (w.in-Some.ensures.room ∙ inv.3),
      )
      | else-has_executed+then-is_idle+in_default w ↦ (
        acted_none g.met.B.Arbiter.lawful c.requires.released inv.0 l
            (sym c.has_executed.ensures ∙ w.if-has_executed.false) (inr (sym w.is_idle.ensures ∙ w.if-is_idle.true, w.in_default.ensures.job)) w.stages-is
            (ap (λ r. vec_items r.items) w.ready-is ∙ same_items c.loop-c.c (vec_items c.loop-c.ready.items) (vec_items w.take_ready.new.ready.items) w.in_default.ensures.job w.in_default.ensures.items) w.log-is w.arb-is,
        rw w.ready-is (w.in_default.ensures.below _ inv.1),
        rw w.ready-is (omega (arith, inv.2, w.in_default.ensures.len)),
        rw w.ready-is (w.in_default.ensures.room ∙ inv.3),
      )
      | else-has_executed+else-is_idle w ↦ (
        acted_none g.met.B.Arbiter.lawful c.requires.released inv.0 l
            (sym c.has_executed.ensures ∙ w.if-has_executed.false) (inl (sym w.is_idle.ensures ∙ w.if-is_idle.false)) w.stages-is (ap (λ r. vec_items r.items) w.ready-is) w.log-is w.arb-is,
        rw w.ready-is inv.1,
        rw w.ready-is inv.2,
        rw w.ready-is inv.3,
      )
    ]

pub returns-clause-goes : goal.returns-clause-goes
returns-clause-goes g c = acted_all c.loop-c.invariant.0 c.args.cores (omega arith)

pub offset_bounds-log-k : goal.offset_bounds-log-k
offset_bounds-log-k g c = omega (arith, c.in-Some.ensures.row _ c.loop-c.invariant.1)

pub bounds-log-k : goal.bounds-log-k
bounds-log-k g c = omega (arith, c.in-Some.ensures.row _ c.loop-c.invariant.1)
