use Rattle.std.proofs.Common.{◌≡◌, ◌≤◌, ◌∙◌, ap, arith, lit<}
use Rattle.part_raw.specs.declared.tuple_ref.TupleRef.{TupleRef}
use Rattle.ttree_node.specs.Tree.{Zipper, Label, size, height}
use Rattle.ttree_node.specs.Seen.{spares_of}
use Rattle.ttree_node.specs.Look.{position}
use Rattle.ttree_node.specs.TreeWithSpares.{TreeWithSpares}
use Rattle.ttree.specs.Shape.{greatest_height}
use Rattle.ttree.proofs.Ends.{items_in_each}
use Rattle.ttree.proofs.HeightBound.{height-short}
use Rattle.ttree.proofs.Heights.{true_heights}
use Rattle.ttree.proofs.tree.TTree.try_clone.Goals as goal

pub copy-requires : goal.copy-requires
copy-requires g c =
    let t = c.self.inside.tree.tree in
    let fit = c.self.invariant.fit in
    let here : (position c.look.result).here ≡ t = ap (λ (z : Zipper (Label TupleRef)). z.here) c.look.ensures.root in
    let spare : spares_of c.nodes_mut.result.now ≡ c.self.inside.nodes = ap (λ (r : TreeWithSpares). r.spares) c.nodes_mut.ensures.shown ∙ c.in_ok-tree.ensures.spares in
    let low : height t ≤ greatest_height = omega (arith, (height-short g.row.MIN g.row.MAX t fit).0, c.self.invariant.short) in
    let fits : size t ≤ spares_of c.nodes_mut.result.now = omega (arith, spare, c.self.invariant.all_nodes) in (
      lit< tt,
      (
        lit< tt,
        (
          ap (λ (r : TreeWithSpares). r.tree) c.nodes_mut.ensures.shown ∙ c.in_ok-tree.ensures.tree,
          rw here (true_heights g.row.MIN g.row.MAX t fit, (items_in_each g.row.MIN g.row.MAX t fit, (low, fits))),
        ),
      ),
    )
