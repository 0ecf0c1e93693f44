use Rattle.std.proofs.Common.{◌≡◌, ◌∙◌, List, [], length, All, Ordering, sym, ap, subst, lit<, arith}
use Rattle.part_raw.specs.declared.tuple_ref.TupleRef.{TupleRef}
use Rattle.mm_index.specs.Range.{NeverFalls}
use Rattle.ttree_node.specs.Tree.{Tree, Zipper, Label, at, whole, list, is_root}
use Rattle.ttree_node.specs.Look.{position}
use Rattle.ttree_node.specs.TreeWithSpares.{TreeWithSpares}
use Rattle.ttree.specs.Shape.{IsTTree, HasItemsInEach}
use Rattle.ttree.specs.Searching.{taken}
use Rattle.ttree.proofs.Descent.{end-empty}
use Rattle.ttree.proofs.Puts.{list_first}
use Rattle.ttree.proofs.Ends.{items_in_each, NeverFalls-taken}
use Rattle.ttree.proofs.Heights.{list_bound}
use Rattle.ttree.proofs.tree.TTree.search.Goals as goal

pub locate-found-requires : goal.locate-found-requires
locate-found-requires g c =
    let place : TupleRef → Ordering = g.P.Probe.place c.args.probe.now in
    let z : Zipper (Label TupleRef) = position c.look-look.result in
    let top : z ≡ at [] c.args.self.now.tree = c.look-look.ensures.root ∙ (λ i. at [] ((c.self.view_is i).tree)) in
    let t : whole z ≡ c.args.self.now.tree = ap (λ (y : Zipper (Label TupleRef)). whole y) top in
    let fit : IsTTree g.row.MIN g.row.MAX c.args.self.now.tree = subst (λ (p : TreeWithSpares). IsTTree g.row.MIN g.row.MAX p.tree) c.self.view_is c.self.invariant.fit in (
      lit< tt,
      (
        ap (λ (y : Zipper (Label TupleRef)). is_root y.above) top,
        (
          sym c.has_node.ensures ∙ c.if-not-has_node.false,
          (
            subst (λ (u : Tree (Label TupleRef)). HasItemsInEach g.row.MAX u) (sym t) (items_in_each g.row.MIN g.row.MAX c.args.self.now.tree fit),
            (
              c.requires.sound,
              (
                subst (λ (u : Tree (Label TupleRef)). All (g.P.Probe.can_place c.args.probe.now) (list u)) (sym t) c.requires.placed,
                (subst (λ (u : Tree (Label TupleRef)). NeverFalls (λ r. taken c.args.seek (place r)) (list u)) (sym t) (NeverFalls-taken c.args.seek place (list c.args.self.now.tree) c.requires.in_order), tt),
              ),
            ),
          ),
        ),
      ),
    )

pub returns-then-not-has_node-clause-gap : goal.returns-then-not-has_node-clause-gap
returns-then-not-has_node-clause-gap g c =
    let f : TupleRef → Ordering = λ r. taken c.args.seek (g.P.Probe.place c.args.probe.now r) in
    let z : Zipper (Label TupleRef) = position c.look-look.result in
    end-empty f z (ap (λ (y : Zipper (Label TupleRef)). is_root y.above) c.look-look.ensures.root) (sym c.has_node.ensures ∙ c.if-not-has_node.true)

pub returns-then-not-has_node-clause-asks : goal.returns-then-not-has_node-clause-asks
returns-then-not-has_node-clause-asks g c =
    let z : Zipper (Label TupleRef) = position c.look-look.result in
    let none : TupleRef = record { number = 0 } in
    let first = list_first z none (ap (λ (y : Zipper (Label TupleRef)). is_root y.above) c.look-look.ensures.root) (sym c.has_node.ensures ∙ c.if-not-has_node.true) in
    let tree : whole z ≡ c.args.self.now.tree = ap (λ (y : Zipper (Label TupleRef)). whole y) (c.look-look.ensures.root ∙ (λ i. at [] ((c.self.view_is i).tree))) in
    λ some. absurd (omega (arith, some, ap (λ (t : Tree (Label TupleRef)). length (list t)) tree, ap (λ (xs : List TupleRef). length xs) first.0))

pub returns-then-not-has_node-clause-bound : goal.returns-then-not-has_node-clause-bound
returns-then-not-has_node-clause-bound g c = rw (← c.self.view_is) (list_bound g.row.MIN g.row.MAX c.self.inside.tree.tree c.self.invariant.fit)

pub returns-clause-bound : goal.returns-clause-bound
returns-clause-bound g c = rw (← c.self.view_is) (list_bound g.row.MIN g.row.MAX c.self.inside.tree.tree c.self.invariant.fit)
