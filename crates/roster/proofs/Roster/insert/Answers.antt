use Rattle.std.proofs.Common.{◌≡◌, vec_items, rules}
use Rattle.std.specs.List.{insert}
use Rattle.roster.proofs.Places.{put_is, rises_insert}
use Rattle.roster.proofs.Roster.insert.Goals as goal

pub returns : goal.returns
returns g c =
    let put : vec_items c.insert.new.self ≡ insert (vec_items c.args.self.now.items) c.place-i.result c.args.x = search rules in
    let items = put_is g.T.Ord.cmp c.args.x c.place-i.ensures.value c.as_slice.ensures put in
    record {
      items = items;
      rising = λ o h. rw items (rises_insert o c.args.x (vec_items c.args.self.now.items) h);
      len = search rules;
      room = search rules;
    }
