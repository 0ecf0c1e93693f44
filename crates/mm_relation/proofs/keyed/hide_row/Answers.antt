use Rattle.std.proofs.Common.{lit<, get_or}
use Rattle.part_raw.proofs.Tuples.{held_tuple}
use Rattle.ttree.specs.Held.{items_of_tree}
use Rattle.mm_relation.proofs.KeyOrder.{key_readable, keyed_without, bag_without}
use Rattle.mm_relation.proofs.keyed.hide_row.Goals as goal

pub remove-requires : goal.remove-requires
remove-requires c =
    let keyed = c.requires.keyed in
    rw (c.new.ensures.order, c.new.ensures.sought, c.beside.ensures.rows, c.beside.ensures.known)
    (lit< tt, (keyed.lists.listed c.args.r c.requires.held, ((keyed.keys_differ, c.beside.ensures.read), ((λ k d l. key_readable c.args.rows.now.tuples (get_or (items_of_tree c.args.by_key.now) k d) (keyed.lists.held k d l)), keyed.rising))))

pub returns-clause-keyed : goal.returns-clause-keyed
returns-clause-keyed c =
    let found = held_tuple c.args.rows.now.tuples c.args.r c.requires.held in
    rw (c.hide.ensures found.0 found.1)
    (keyed_without c.args.rows.now.tuples (items_of_tree c.args.by_key.now) c.args.r c.requires.keyed c.requires.held (items_of_tree c.remove.new.self) (rw (c.new.ensures.order, c.new.ensures.sought, c.beside.ensures.rows) at c.remove.ensures.items))

pub returns-clause-unlisted : goal.returns-clause-unlisted
returns-clause-unlisted c =
    bag_without c.args.rows.now.tuples (items_of_tree c.args.by_key.now) c.args.r c.requires.keyed c.requires.held (items_of_tree c.remove.new.self) (rw (c.new.ensures.order, c.new.ensures.sought, c.beside.ensures.rows) at c.remove.ensures.items)
