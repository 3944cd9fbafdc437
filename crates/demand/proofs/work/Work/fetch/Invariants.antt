use Rattle.std.proofs.Common.{◌≡◌, ◌*◌, map, take, vec_items, vec_len}
use Rattle.demand.specs.Offers.{listed, kept}
use Rattle.demand.specs.Rows.{rows_of, row_at}
use Rattle.demand.proofs.work.Work.fetch.Given as goal

abbrev pub invariant-loop-place : goal.invariant-loop-place
invariant-loop-place l =
    (rows_of (vec_items l.self.tasks) ≡ take l.place l.rows)
    × (map listed (vec_items l.self.offers.items) ≡ kept (row_at l.rows) l.place)
    × (vec_len l.self.tasks ≡ l.place)
    × (vec_len l.self.offers.items ≡ 2 * l.place)
