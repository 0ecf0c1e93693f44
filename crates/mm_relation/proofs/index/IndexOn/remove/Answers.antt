use Rattle.std.proofs.Common.{lit<, IsSome}
use Rattle.std.proofs.lemmas.List.Elements.{All-contains}
use Rattle.mm_relation.specs.Indexes.{TreeHas}
use Rattle.mm_relation.specs.Reading.{value_at}
use Rattle.mm_relation.specs.State.{tree_list}
use Rattle.mm_relation.proofs.index.IndexOn.remove.Goals as goal

pub beside-order-requires : goal.beside-order-requires
beside-order-requires g c =
    let has : TreeHas (g.R.LinkedKeys.keys c.args.others.now) c.args.rows.now.tuples c.args.r c.args.self.now.column.0 c.in-Tree.tree = rw c.in-Tree.is at c.requires.has in
    All-contains (λ q. IsSome (value_at (g.R.LinkedKeys.keys c.args.others.now) c.args.self.now.column.0 c.args.rows.now.tuples q)) (tree_list c.in-Tree.tree.tree) c.args.r has.tree.readable has.held

pub remove-requires : goal.remove-requires
remove-requires g c =
    let has : TreeHas (g.R.LinkedKeys.keys c.args.others.now) c.args.rows.now.tuples c.args.r c.args.self.now.column.0 c.in-Tree.tree = rw c.in-Tree.is at c.requires.has in
    let order = c.beside-order.ensures in
    rw (c.new.ensures.order, c.new.ensures.sought, order.rows, order.others, order.column, order.known)
    (lit< tt, (has.held, ((c.requires.keys_differ, order.read), (has.tree.readable, has.tree.rising))))
