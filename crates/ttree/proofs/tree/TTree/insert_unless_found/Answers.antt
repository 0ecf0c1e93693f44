use Rattle.std.proofs.Common.{◌≡◌, ◌∙◌, List, length, ap, subst, sym, lit<, arith}
use Rattle.std.specs.List.{All}
use Rattle.part_raw.specs.declared.tuple_ref.TupleRef.{TupleRef}
use Rattle.mm_index.specs.Range.{NeverFalls}
use Rattle.ttree_node.specs.Tree.{list, size}
use Rattle.ttree_node.specs.Seen.{tree_of, shown}
use Rattle.ttree_node.specs.TreeWithSpares.{TreeWithSpares}
use Rattle.ttree.specs.Held.{items_of_tree}
use Rattle.ttree.specs.Shape.{IsTTree}
use Rattle.ttree.proofs.Heights.{list_bound}
use Rattle.ttree.proofs.Occupancy.{few_nodes, spare_in_room}
use Rattle.ttree.proofs.tree.TTree.insert_unless_found.Goals as goal

pub insert_unless_found-found-requires : goal.insert_unless_found-found-requires
insert_unless_found-found-requires g c =
    let p = c.args.self.now in
    let fit : IsTTree g.row.MIN g.row.MAX p.tree = subst (λ (q : TreeWithSpares). IsTTree g.row.MIN g.row.MAX q.tree) c.self.view_is c.self.invariant.fit in
    let spare = spare_in_room g.row.MIN (size p.tree) p.spares (length (items_of_tree p)) (few_nodes g.row.MIN g.row.MAX p.tree fit) c.requires.reserved in
    let seen : p ≡ shown c.nodes_mut.result.now = sym (c.nodes_mut.ensures.shown ∙ c.self.view_is) in
    let held : items_of_tree p ≡ list (tree_of c.nodes_mut.result.now) = ap (λ (q : TreeWithSpares). items_of_tree q) seen in (
      lit< tt,
      (
        c.self.invariant.some,
        (
          c.self.invariant.ordered,
          (
            c.self.invariant.two,
            (
              subst (λ (q : TreeWithSpares). IsTTree g.row.MIN g.row.MAX q.tree) seen fit,
              (
                omega (arith, c.requires.short, ap (λ (xs : List TupleRef). length xs) held),
                (
                  omega (arith, spare, ap (λ (q : TreeWithSpares). q.spares) seen),
                  (
                    c.requires.sound,
                    (
                      subst (λ (xs : List TupleRef). All (g.P.Probe.can_place c.args.probe.now) xs) held c.requires.placed,
                      subst (λ (xs : List TupleRef). NeverFalls (g.P.Probe.place c.args.probe.now) xs) held c.requires.in_order,
                    ),
                  ),
                ),
              ),
            ),
          ),
        ),
      ),
    )

pub returns-then-is_none-clause-bound : goal.returns-then-is_none-clause-bound
returns-then-is_none-clause-bound g c = rw (← c.self.view_is) (list_bound g.row.MIN g.row.MAX c.self.inside.tree.tree c.self.invariant.fit)

pub returns-else-is_none-clause-bound : goal.returns-else-is_none-clause-bound
returns-else-is_none-clause-bound g c = rw (← c.self.view_is) (list_bound g.row.MIN g.row.MAX c.self.inside.tree.tree c.self.invariant.fit)
