use Rattle.std.proofs.Common.{◌<◌, List, get_or, length, subst, sym}
use Rattle.part_raw.specs.declared.tuple_ref.TupleRef.{TupleRef}
use Rattle.ttree_node.specs.Tree.{whole, items_of}
use Rattle.ttree_node.specs.Look.{position}
use Rattle.ttree.proofs.Descent.{All-here, some_here}
use Rattle.ttree.proofs.warming.Way.read_least.Given.{Over}
use Rattle.ttree.proofs.warming.Way.read_least.Goals as goal
use Rattle.ttree.proofs.warming.Way.read_least.Goals.{After-items}

some : (g : Over) (c : After-items g) → 0 < length (items_of (position c.args.self.now.look).here)
some g c = some_here g.row.MAX (whole (position c.args.root)) (position c.args.self.now.look) c.requires.way.same c.requires.some c.requires.way.node

pub bounds-items-0 : goal.bounds-items-0
bounds-items-0 g c = rw c.items.ensures (some g c)

pub number-self-requires : goal.number-self-requires
number-self-requires g c =
    let at = goal.at.number-self-requires g c in
    let none : TupleRef = record { number = 0 } in
    subst (λ (items : List TupleRef). g.L.Leading.can_read c.args.leading.now (get_or items 0 none)) (sym c.items.ensures)
    (All-here g.row.MAX (whole (position c.args.root)) (position c.args.self.now.look) c.requires.way.same (g.L.Leading.can_read c.args.leading.now) c.requires.readable
    0 none (some g at.After-items))
