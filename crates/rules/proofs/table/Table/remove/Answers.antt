use Rattle.std.proofs.Common.{◌≡◌, ◌+◌, length, vec_items, arith, rules}
use Rattle.rules.proofs.Kept.{removed_each, removed_apart}
use Rattle.rules.proofs.table.Table.remove.Goals as goal

pub invariant_of-self : goal.invariant_of-self
invariant_of-self c =
    let before = vec_items c.args.self.now.rows in
    let after = vec_items c.remove.new.self in
    let by = c.remove.ensures.by_index in
    let one : length after + 1 ≡ length before = omega (arith, c.remove.ensures.len, c.args.self.now.rows.ok.0, c.remove.new.self.ok.0) in
    record {
      fits = search rules;
      few = search rules;
      tasks = removed_each before after c.in_ok-place.place by.0 by.1 one c.args.self.now.platform.cores c.args.self.now.tasks;
      apart = removed_apart before after c.in_ok-place.place by.0 by.1 one c.args.self.now.apart;
      room = search rules;
    }
