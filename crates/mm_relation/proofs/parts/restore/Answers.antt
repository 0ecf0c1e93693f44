use Rattle.std.proofs.Common.{◌≡◌, ap, arith}
use Rattle.std.specs.FinMap.{insert}
use Rattle.part_raw.proofs.Tuples.{held_tuple}
use Rattle.ttree.specs.Held.{items_of_tree}
use Rattle.mm_relation.proofs.Changing.{awaits, served_with}
use Rattle.mm_relation.proofs.Serving.{gain_declared}
use Rattle.mm_relation.proofs.Room.{gain_keeps, rooms_fewer}
use Rattle.mm_relation.proofs.Owed.{owed_left, owed_without}
use Rattle.mm_relation.proofs.parts.restore.Goals as goal

pub show_row-requires-clause-key_room : goal.show_row-requires-clause-key_room
show_row-requires-clause-key_room g c = let some = c.requires.some in omega (arith, some, c.requires.owed.key_room)

pub insert-requires-clause-awaits : goal.insert-requires-clause-awaits
insert-requires-clause-awaits g c =
    let found = held_tuple c.args.rows.now.aside.hidden c.args.r c.requires.hidden in
    let put : c.show_row.new.rows.tuples ≡ insert c.args.rows.now.tuples c.args.r found.0 = ap (λ s. s.tuples) (c.show_row.ensures.shown found.0 found.1) in
    rw put
    (awaits (g.R.LinkedKeys.keys c.args.links.now) c.args.rows.now.tuples (items_of_tree c.args.by_key.now) c.args.indexes.now c.requires.keyed c.requires.read c.requires.serve
    c.args.r found.0 c.show_row.ensures.fresh (c.requires.row_read found.0 found.1)
    (omega (arith, c.requires.few)) (rw put at c.show_row.ensures.keyed.keys_differ) (rooms_fewer _ _ 1 1 c.args.indexes.now c.requires.some c.requires.some c.requires.owed.room) (c.requires.owed.covered c.args.r c.requires.hidden))

pub returns-clause-serve : goal.returns-clause-serve
returns-clause-serve g c =
    let found = held_tuple c.args.rows.now.aside.hidden c.args.r c.requires.hidden in
    let put : c.show_row.new.rows.tuples ≡ insert c.args.rows.now.tuples c.args.r found.0 = ap (λ s. s.tuples) (c.show_row.ensures.shown found.0 found.1) in
    let differ = rw put at c.show_row.ensures.keyed.keys_differ in
    rw put
    (served_with (g.R.LinkedKeys.keys c.args.links.now) c.args.rows.now.tuples (items_of_tree c.args.by_key.now) c.args.indexes.now c.requires.keyed c.requires.read c.requires.serve
    c.args.r found.0 c.show_row.ensures.fresh (c.requires.row_read found.0 found.1)
    (items_of_tree c.show_row.new.by_key) c.insert.new.indexes differ c.show_row.ensures.listed
    (awaits (g.R.LinkedKeys.keys c.args.links.now) c.args.rows.now.tuples (items_of_tree c.args.by_key.now) c.args.indexes.now c.requires.keyed c.requires.read c.requires.serve
    c.args.r found.0 c.show_row.ensures.fresh (c.requires.row_read found.0 found.1)
    (omega (arith, c.requires.few)) differ (rooms_fewer _ _ 1 1 c.args.indexes.now c.requires.some c.requires.some c.requires.owed.room) (c.requires.owed.covered c.args.r c.requires.hidden))
    (rw put at c.insert.ensures))

pub returns-clause-declared : goal.returns-clause-declared
returns-clause-declared g c = gain_declared (g.R.LinkedKeys.keys c.args.links.now) _ _ c.args.indexes.now c.insert.new.indexes c.insert.ensures

pub returns-clause-owed : goal.returns-clause-owed
returns-clause-owed g c =
    let found = held_tuple c.args.rows.now.aside.hidden c.args.r c.requires.hidden in
    rw (c.show_row.ensures.shown found.0 found.1)
    (owed_without _ _ c.args.r c.show_row.new.by_key c.insert.new.indexes
    (owed_left 1 1 _ _ _ c.args.by_key.now c.show_row.new.by_key c.args.indexes.now c.insert.new.indexes (gain_keeps (g.R.LinkedKeys.keys c.args.links.now) _ _ c.args.indexes.now c.insert.new.indexes c.insert.ensures) c.requires.owed
    (omega (arith, c.requires.some)) (omega (arith, c.requires.some)) (omega (arith, c.requires.some, c.requires.owed.key_room, c.show_row.ensures.key_room))))
