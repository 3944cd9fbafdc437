use Rattle.std.proofs.Common.{◌≡◌, ◌/◌, ◌%◌, [], ◌∷◌, ◌++◌, append_assoc, rules}
use Rattle.writing.proofs.sheet.add_task.Goals as goal

pub returns-clause-bytes : goal.returns-clause-bytes
returns-clause-bytes g c =
    let row = c.args.row in
    let first : c.add.new.self.bytes ≡ c.args.text.now.bytes ++ (0 ∷ 25 ∷ 2 ∷ row.id / 256 ∷ row.id % 256 ∷ row.core ∷ row.rank ∷ []) = search rules in
    rw (c.add_four-5.ensures.bytes, c.add_four-4.ensures.bytes, c.add_four-3.ensures.bytes, c.add_four-2.ensures.bytes, c.add_four.ensures.bytes, first) (simp append_assoc)
