use Rattle.std.proofs.Common.{◌≡◌, ◌∙◌, List, length, ap, subst, sym, arith}
use Rattle.part_raw.specs.declared.tuple_ref.TupleRef.{TupleRef}
use Rattle.mm_index.specs.Order.{IsRising, remove_by}
use Rattle.mm_index.proofs.Placed.{IsRising-remove_by}
use Rattle.ttree_node.specs.Tree.{list}
use Rattle.ttree_node.specs.Seen.{tree_of, shown}
use Rattle.ttree_node.specs.TreeWithSpares.{TreeWithSpares}
use Rattle.ttree.specs.Held.{items_of_tree}
use Rattle.ttree.specs.Room.{nodes_of}
use Rattle.ttree.proofs.Occupancy.{room_after_remove}
use Rattle.ttree.proofs.tree.TTree.remove.Goals as goal

pub invariant_of-self : goal.invariant_of-self
invariant_of-self g c =
    let held = ap (λ (t : TreeWithSpares). length (items_of_tree t)) c.nodes_mut.ensures.shown in
    record {
      some = c.self.invariant.some;
      ordered = c.self.invariant.ordered;
      two = c.self.invariant.two;
      fit = c.remove.ensures.fit;
      counted = omega (arith, c.self.invariant.counted, held, c.remove.ensures.one);
      short = omega (arith, c.self.invariant.short, held, c.remove.ensures.one);
      all_nodes = omega (arith, c.self.invariant.all_nodes, c.remove.ensures.nodes, ap (λ (t : TreeWithSpares). nodes_of t) c.nodes_mut.ensures.shown);
    }

pub returns-clause-room : goal.returns-clause-room
returns-clause-room g c =
    let p = c.args.self.now in let q = shown c.remove.new.nodes in
    let seen : shown c.nodes_mut.result.now ≡ p = c.nodes_mut.ensures.shown ∙ c.self.view_is in
    room_after_remove g.row.MIN (nodes_of p) (nodes_of q) p.spares q.spares (length (items_of_tree p)) (length (items_of_tree q)) (c.remove.ensures.nodes ∙ ap (λ (t : TreeWithSpares). nodes_of t) seen)
    (omega (arith, c.remove.ensures.spares, ap (λ (t : TreeWithSpares). t.spares) seen)) (c.remove.ensures.one ∙ ap (λ (t : TreeWithSpares). length (items_of_tree t)) seen)

pub returns-clause-rising : goal.returns-clause-rising
returns-clause-rising g c =
    let cmp = g.O.TupleOrder.cmp c.args.probe.now.order.now in
    let covers = g.O.TupleOrder.covers c.args.probe.now.order.now in
    let strict = g.met.O.TupleOrder.is_strict c.args.probe.now.order.now c.requires.sound in
    let seen : shown c.nodes_mut.result.now ≡ c.args.self.now = c.nodes_mut.ensures.shown ∙ c.self.view_is in
    let is : list (tree_of c.remove.new.nodes) ≡ remove_by cmp c.args.probe.now.sought (items_of_tree c.args.self.now) =
    c.remove.ensures.list ∙ ap (λ (t : TreeWithSpares). remove_by cmp c.args.probe.now.sought (items_of_tree t)) seen in
    subst (λ (xs : List TupleRef). IsRising cmp xs) (sym is) (IsRising-remove_by covers cmp strict c.args.probe.now.sought (items_of_tree c.args.self.now) c.requires.rising)
