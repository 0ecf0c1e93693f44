use Rattle.std.proofs.Common.{length, subst, sym}
use Rattle.part_raw.specs.declared.tuple_ref.TupleRef.{TupleRef}
use Rattle.ttree_node.specs.Tree.{Tree, Label, size}
use Rattle.ttree.specs.Held.{items_of_tree}
use Rattle.ttree.specs.Shape.{IsTTree}
use Rattle.ttree.proofs.Occupancy.{few_nodes, no_room}
use Rattle.ttree.proofs.tree.TTree.release_spares.Goals as goal

pub returns-clause-room : goal.returns-clause-room
returns-clause-room g c =
    let p = c.release_spares.new.self in
    let fit : IsTTree g.row.MIN g.row.MAX p.tree = subst (λ (t : Tree (Label TupleRef)). IsTTree g.row.MIN g.row.MAX t) (sym c.release_spares.ensures.tree) c.self.invariant.fit in
    no_room g.row.MIN (size p.tree) p.spares (length (items_of_tree p)) (few_nodes g.row.MIN g.row.MAX p.tree fit) c.release_spares.ensures.spares
