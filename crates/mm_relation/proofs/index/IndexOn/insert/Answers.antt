use Rattle.std.proofs.Common.{lit<}
use Rattle.mm_relation.specs.Indexes.{TreeAwaits, HashAwaits}
use Rattle.mm_relation.proofs.index.IndexOn.insert.Goals as goal

pub beside-order-requires : goal.beside-order-requires
beside-order-requires g c =
    let awaits : TreeAwaits (g.R.LinkedKeys.keys c.args.others.now) c.args.rows.now.tuples c.args.r c.args.self.now.column.0 c.in-Tree.tree = rw c.in-Tree.is at c.requires.awaits in
    awaits.r_readable

pub insert-requires : goal.insert-requires
insert-requires g c =
    let awaits : TreeAwaits (g.R.LinkedKeys.keys c.args.others.now) c.args.rows.now.tuples c.args.r c.args.self.now.column.0 c.in-Tree.tree = rw c.in-Tree.is at c.requires.awaits in
    let order = c.beside-order.ensures in
    rw (c.new.ensures.order, c.new.ensures.sought, order.rows, order.others, order.column, order.known)
    (lit< tt, (awaits.room, (awaits.short, (awaits.absent, ((c.requires.keys_differ, order.read), (awaits.tree.readable, (awaits.r_readable, awaits.tree.rising)))))))

pub insert-requires-in-Hash-clause-absent : goal.insert-requires-in-Hash-clause-absent
insert-requires-in-Hash-clause-absent g c =
    let awaits : HashAwaits (g.R.LinkedKeys.keys c.args.others.now) c.args.rows.now.tuples c.args.r c.args.self.now.column.0 c.in-Hash.hash = rw c.in-Hash.is at c.requires.awaits in
    awaits.absent
