use Rattle.std.proofs.Common.{vec_items, sym, ap, ◌∙◌, subst, arith, rules}
use Rattle.rules.specs.Rules.{add_verdict, EachATask, AllApart}
use Rattle.rules.proofs.Kept.{addable, added_each, added_apart}
use Rattle.rules.proofs.table.Table.add.Goals as goal

pub invariant_of-self : goal.invariant_of-self
invariant_of-self c =
    let before = c.args.self.now in
    let cores = before.platform.cores in
    let rows = vec_items before.rows in
    let row = c.args.row in
    let ok = addable cores rows row (ap (λ rs. add_verdict cores rs row) (sym c.rows.ensures) ∙ sym c.in_ok-judge_add.ensures) in
    let pushed = sym c.push_reserved.ensures.items in
    record {
      fits = search rules;
      few = omega (arith, ok.room, c.push_reserved.ensures.len, before.rows.ok.0);
      tasks = subst (EachATask cores) pushed (added_each cores rows row before.tasks ok);
      apart = subst AllApart pushed (added_apart cores rows row before.apart ok);
      room = search rules;
    }
