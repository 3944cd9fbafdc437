use Rattle.std.proofs.Common.{get_or, sym, refl, ◌∙◌, subst, inl, inr, arith}
use Rattle.std.proofs.lemmas.Bool.{cases_eq}
use Rattle.std.proofs.lemmas.Option.{MatchOption-at_some, MatchOption-at_none}
use Rattle.std.proofs.lemmas.Result.{err_from_is_err_and}
use Rattle.argument.specs.Plans.{plan_of}
use Rattle.bridge.specs.Scripts.{LawfulRow}
use Rattle.tasks.specs.declared.refusal.Refusal.TheVariants.{Script}
use Rattle.runner.specs.Lookups.{no_script, script_for, Admitted}
use Rattle.runner.proofs.Looking.{refused_is, found_is, first_fault, lawful_row, among_first, jobs_more}
use Rattle.runner.proofs.lookup.look_up.Goals as goal

pub returns-in_err-job-clause-fault : goal.returns-in_err-job-clause-fault
returns-in_err-job-clause-fault g c =
    let p = err_from_is_err_and c.from_residual.result c.from_residual.ensures.1 in
    let w = refused_is c.admit.result (Script c.loop-k.k) c.in_err-job.field-0.0 (sym c.ok_or.ensures.value ∙ c.in_err-job.was) in
    let n = MatchOption-at_none _ _ w.0 c.admit.ensures.none in
    rw (p.1, p.2, w.1) (c.loop-k.k, refl, first_fault c.args.rows.now c.args.script.now c.loop-k.k c.loop-k-test.true c.loop-k.invariant.1 c.loop-k.invariant.2 (rw (c.as_slice.ensures, c.loop-k.invariant.0) at n))

pub loop-k-preserved : goal.loop-k-preserved
loop-k-preserved g c =
    let rows = c.args.rows.now in
    let script = c.args.script.now in
    let k = c.loop-k.k in
    let is = found_is c.admit.result (Script k) c.in_ok-job.job (sym c.ok_or.ensures.value ∙ c.in_ok-job.was) in
    let n = MatchOption-at_some _ _ c.in_ok-job.job is c.admit.ensures.some in
    let a = subst (λ e. Admitted rows (get_or script k no_script) e n.0) (c.as_slice.ensures ∙ c.loop-k.invariant.0) n.1 in
    let row = lawful_row rows script k c.loop-k-test.true n.0 a.known a in (
      jobs_more rows script k c.loop-k-test.true n.0 a.known (g.L.JobList.jobs c.loop-k.jobs) (g.L.JobList.jobs c.push.new.self) c.in_ok-job.job c.loop-k.invariant.0 n.2 c.push.ensures.jobs,
      omega (arith, among_first rows script k c.loop-k-test.true n.0 a.known a),
      λ j i. elim (cases_eq j k) [
        | inl e ↦ subst (LawfulRow (plan_of 0 rows) (script_for rows script)) (sym e) row
        | inr e ↦ c.loop-k.invariant.2 j (omega arith)
      ],
      c.push.ensures.room,
      c.push.ensures.cleared _ c.loop-k.invariant.4,
    )
