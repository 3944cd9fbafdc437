use Rattle.std.proofs.Common.{vec_items, sym, ap, ◌∙◌, rules}
use Rattle.rules.specs.Rules.{place_of, change_verdict}
use Rattle.rules.proofs.Kept.{changeable, changed_each, changed_apart}
use Rattle.rules.proofs.Found.{place_found}
use Rattle.rules.proofs.table.Table.change.Goals as goal

pub invariant_of-self : goal.invariant_of-self
invariant_of-self c =
    let before = c.args.self.now in
    let cores = before.platform.cores in
    let rows = vec_items before.rows in
    let row = c.args.row in
    let place = c.in_ok-place.place in
    let same = sym c.rows.ensures in
    let found = place_found rows row.id place (ap (place_of row.id) same ∙ c.in_ok-place.ensures.1) in
    let ok = changeable cores rows row (ap (λ rs. change_verdict cores rs row) same ∙ c.in_ok-place.ensures.0) in
    record {
      fits = search rules;
      few = search rules;
      tasks = changed_each cores rows place row before.tasks ok;
      apart = changed_apart cores rows place row before.apart ok found.0 found.1;
      room = search rules;
    }
