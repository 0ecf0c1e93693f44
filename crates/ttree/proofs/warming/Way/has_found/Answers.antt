use Rattle.std.proofs.Common.{All, List, subst, sym}
use Rattle.part_raw.specs.declared.tuple_ref.TupleRef.{TupleRef}
use Rattle.ttree_node.specs.Tree.{whole, items_of}
use Rattle.ttree_node.specs.Look.{position}
use Rattle.ttree.proofs.Descent.{All-here}
use Rattle.ttree.proofs.warming.Way.has_found.Goals as goal

pub number-requires : goal.number-requires
number-requires g c =
    let CanRead : TupleRef → Type 0 = g.L.Leading.can_read c.args.leading.now in
    let held : All CanRead (items_of (position c.args.self.now.last).here) =
    All-here g.row.MAX (whole (position c.args.root)) (position c.args.self.now.last) c.requires.way.last_same CanRead c.requires.readable in
    let found = c.in-Some.ensures.lookup in
    let here : All CanRead c.items.result.now = subst (λ (items : List TupleRef). All CanRead items) (sym c.items.ensures) held in
    subst CanRead (sym found.1) (here c.args.self.now.high c.in-Some.item.now found.3.0)
