use Rattle.std.proofs.Common.{◌≡◌, ◌∙◌, [], All, sym, ap, subst, lit<}
use Rattle.part_raw.specs.declared.tuple_ref.TupleRef.{TupleRef}
use Rattle.ttree_node.specs.Tree.{Tree, Zipper, Label, at, whole, list}
use Rattle.ttree_node.specs.Look.{position}
use Rattle.ttree_node.specs.TreeWithSpares.{TreeWithSpares}
use Rattle.ttree.specs.Shape.{IsTTree, HasItemsInEach}
use Rattle.ttree.proofs.Ends.{items_in_each}
use Rattle.ttree.proofs.tree.TTree.search_many.Given.{Over}
use Rattle.ttree.proofs.tree.TTree.search_many.Goals as goal
use Rattle.ttree.proofs.tree.TTree.search_many.Goals.{After-look-root}

-- what the tree is that is searched: its nodes have few items each, and what is sought by can be read of each
searched : (g : Over) (c : After-look-root g) → HasItemsInEach g.row.MAX (whole (position c.look-root.result)) × All (g.L.Leading.can_read c.args.leading.now) (list (whole (position c.look-root.result)))
searched g c =
    let z : Zipper (Label TupleRef) = position c.look-root.result in
    let top : z ≡ at [] c.args.self.now.tree = c.look-root.ensures.root ∙ (λ i. at [] ((c.self.view_is i).tree)) in
    let t : whole z ≡ c.args.self.now.tree = ap (λ (y : Zipper (Label TupleRef)). whole y) top in
    let fit : IsTTree g.row.MIN g.row.MAX c.args.self.now.tree = subst (λ (p : TreeWithSpares). IsTTree g.row.MIN g.row.MAX p.tree) c.self.view_is c.self.invariant.fit in (
      subst (λ (u : Tree (Label TupleRef)). HasItemsInEach g.row.MAX u) (sym t) (items_in_each g.row.MIN g.row.MAX c.args.self.now.tree fit),
      subst (λ (u : Tree (Label TupleRef)). All (g.L.Leading.can_read c.args.leading.now) (list u)) (sym t) c.requires,
    )

pub descend_each-requires : goal.descend_each-requires
descend_each-requires g c =
    let all = searched g (goal.at.descend_each-requires g c).After-look-root in
    (lit< tt, (lit< tt, (all.0, (all.1, c.seek_each.ensures))))

pub descend_each-requires-2 : goal.descend_each-requires-2
descend_each-requires-2 g c =
    let all = searched g (goal.at.descend_each-requires-2 g c).After-look-root in
    (lit< tt, (lit< tt, (all.0, (all.1, c.descend_each.ensures))))
