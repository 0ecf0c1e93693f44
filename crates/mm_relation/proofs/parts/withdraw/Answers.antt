use Rattle.std.proofs.Common.{◌≡◌, ap, arith}
use Rattle.std.specs.FinMap.{remove}
use Rattle.part_raw.proofs.Tuples.{held_tuple}
use Rattle.ttree.specs.Held.{items_of_tree}
use Rattle.mm_relation.proofs.Changing.{have, served_without}
use Rattle.mm_relation.proofs.Serving.{lose_declared}
use Rattle.mm_relation.proofs.Room.{lose_keeps, lose_covers}
use Rattle.mm_relation.proofs.Owed.{owed_left, owed_with}
use Rattle.mm_relation.proofs.parts.withdraw.Goals as goal

pub remove-requires-clause-has : goal.remove-requires-clause-has
remove-requires-clause-has g c =
    have (g.R.LinkedKeys.keys c.args.links.now) c.args.rows.now.tuples (items_of_tree c.args.by_key.now) c.args.indexes.now c.requires.keyed c.requires.read c.requires.serve c.args.r c.requires.held

pub returns-clause-serve : goal.returns-clause-serve
returns-clause-serve g c =
    let found = held_tuple c.args.rows.now.tuples c.args.r c.requires.held in
    let taken : c.hide_row.new.rows.tuples ≡ remove c.args.rows.now.tuples c.args.r = ap (λ s. s.tuples) (c.hide_row.ensures.hidden found.0 found.1) in
    rw taken
    (served_without (g.R.LinkedKeys.keys c.args.links.now) c.args.rows.now.tuples (items_of_tree c.args.by_key.now) c.args.indexes.now c.requires.keyed c.requires.read c.requires.serve c.args.r c.requires.held
    (items_of_tree c.hide_row.new.by_key) c.remove.new.indexes c.hide_row.ensures.unlisted (rw taken at c.hide_row.ensures.keyed) c.remove.ensures)

pub returns-clause-declared : goal.returns-clause-declared
returns-clause-declared g c = lose_declared (g.R.LinkedKeys.keys c.args.links.now) _ _ c.args.indexes.now c.remove.new.indexes c.remove.ensures

pub returns-clause-owed : goal.returns-clause-owed
returns-clause-owed g c =
    let found = held_tuple c.args.rows.now.tuples c.args.r c.requires.held in
    let keys = g.R.LinkedKeys.keys c.args.links.now in
    rw (c.hide_row.ensures.hidden found.0 found.1)
    (owed_with _ _ c.args.r found.0 c.hide_row.new.by_key c.remove.new.indexes (lose_covers keys _ _ c.args.indexes.now c.remove.new.indexes c.remove.ensures)
    (owed_left 0 0 _ _ _ c.args.by_key.now c.hide_row.new.by_key c.args.indexes.now c.remove.new.indexes (lose_keeps keys _ _ c.args.indexes.now c.remove.new.indexes c.remove.ensures) c.requires.owed
    (omega arith) (omega arith) (omega (arith, c.requires.owed.key_room, c.hide_row.ensures.key_room))))
