use Rattle.std.proofs.Common.{◌∙◌, arith}
use Rattle.ttree.specs.Held.{items_of_tree}
use Rattle.mm_relation.proofs.Changing.{have, served_without}
use Rattle.mm_relation.proofs.Room.{lose_keeps}
use Rattle.mm_relation.proofs.Owed.{owed_left}
use Rattle.mm_relation.proofs.Serving.{lose_declared, seen_declared}
use Rattle.mm_relation.proofs.parts.displace.Goals as goal

pub remove-requires-clause-has : goal.remove-requires-clause-has
remove-requires-clause-has g c =
    have (g.R.LinkedKeys.keys c.args.links.now) c.args.rows.now.tuples (items_of_tree c.args.by_key.now) c.args.indexes.now c.requires.keyed c.requires.read c.requires.serve c.args.r c.requires.held

pub returns-clause-serve : goal.returns-clause-serve
returns-clause-serve g c =
    rw (c.settle.ensures.tuples, c.take_row.ensures.taken, c.settle.ensures.by_key, c.settle.ensures.same)
    (served_without (g.R.LinkedKeys.keys c.args.links.now) c.args.rows.now.tuples (items_of_tree c.args.by_key.now) c.args.indexes.now c.requires.keyed c.requires.read c.requires.serve c.args.r c.requires.held
    (items_of_tree c.take_row.new.by_key) c.remove.new.indexes c.take_row.ensures.unlisted (rw c.take_row.ensures.taken at c.take_row.ensures.keyed) c.remove.ensures)

pub returns-clause-declared : goal.returns-clause-declared
returns-clause-declared g c =
    seen_declared c.remove.new.indexes c.settle.new.indexes c.settle.ensures.same
    ∙ lose_declared (g.R.LinkedKeys.keys c.args.links.now) _ _ c.args.indexes.now c.remove.new.indexes c.remove.ensures

pub returns-clause-owed : goal.returns-clause-owed
returns-clause-owed g c = λ owed.
    (rw c.take_row.ensures.aside at c.settle.ensures.owed)
    (owed_left 0 0 _ _ _ c.args.by_key.now c.take_row.new.by_key c.args.indexes.now c.remove.new.indexes (lose_keeps (g.R.LinkedKeys.keys c.args.links.now) _ _ c.args.indexes.now c.remove.new.indexes c.remove.ensures) owed
    (omega arith) (omega arith) (omega (arith, owed.key_room, c.take_row.ensures.key_room)))
