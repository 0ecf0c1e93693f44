use Rattle.std.proofs.Common.{◌≡◌, ◌∙◌, ◌^◌, ◌≤◌, length, ap, subst, sym, arith, lit<}
use Rattle.part_raw.specs.declared.tuple_ref.TupleRef.{TupleRef}
use Rattle.ttree_node.specs.Tree.{Tree, Zipper, Label, whole, list, size, up, with_leaf}
use Rattle.ttree_node.specs.Seen.{on_side}
use Rattle.ttree_node.specs.Editor.{position, tree_at}
use Rattle.ttree.specs.Shape.{IsTTree, ParentsAreFull}
use Rattle.ttree.specs.Fullness.{CanRiseFull}
use Rattle.ttree.proofs.Fullness.{grown_rises_full}
use Rattle.ttree.specs.Mending.{CanRise}
use Rattle.ttree.proofs.Growing.{grown_rises}
use Rattle.ttree.proofs.Puts.{length_grown, size_grown}
use Rattle.ttree.proofs.Places.{whole-up}
use Rattle.ttree.proofs.insert.grow.Given.{Over}
use Rattle.ttree.proofs.insert.grow.Goals as goal
use Rattle.ttree.proofs.insert.grow.Goals.{After-up}

there : (g : Over) (c : After-up g) → position c.up.new.self ≡ up (with_leaf c.args.r (on_side c.args.side (position c.args.editor.now)))
there g c = c.up.ensures.moved ∙ ap (λ (w : Zipper (Label TupleRef)). up w) c.new_leaf.ensures.leaf

grown : (g : Over) (c : After-up g) → tree_at c.up.new.self ≡ whole (with_leaf c.args.r (on_side c.args.side (position c.args.editor.now)))
grown g c = c.up.ensures.tree ∙ c.new_leaf.ensures.tree ∙ ap (λ (w : Zipper (Label TupleRef)). whole w) c.new_leaf.ensures.leaf

pub rebalance-requires : goal.rebalance-requires
rebalance-requires g c =
    let d = (goal.at.rebalance-requires g c).After-up in
    let z : Zipper (Label TupleRef) = position c.args.editor.now in
    let y : Zipper (Label TupleRef) = with_leaf c.args.r (on_side c.args.side z) in
    let fit : IsTTree g.row.MIN g.row.MAX (whole z) = subst (λ (t : Tree (Label TupleRef)). IsTTree g.row.MIN g.row.MAX t) c.requires.tree c.requires.fit in
    let n = length_grown c.args.side z c.args.r c.requires.side c.requires.node c.requires.open in
    let old = ap (λ (t : Tree (Label TupleRef)). length (list t)) c.requires.tree in
    let short : length (list (tree_at c.up.new.self)) ≤ 2 ^ 32 = omega (arith, ap (λ (t : Tree (Label TupleRef)). length (list t)) (grown g d), n, old, c.requires.short) in (
      lit< tt,
      (
        c.requires.some,
        (
          c.requires.ordered,
          (
            c.requires.two,
            (
              subst (λ (w : Zipper (Label TupleRef)). CanRise g.row.MIN g.row.MAX w) (sym (there g d)) (grown_rises g.row.MIN g.row.MAX c.args.side z c.args.r (omega (arith, c.requires.two)) c.requires.side c.requires.node c.requires.open (omega (arith, c.requires.ordered, c.requires.full)) fit),
              (grown g d ∙ sym (whole-up y) ∙ ap (λ (w : Zipper (Label TupleRef)). whole w) (sym (there g d)), short),
            ),
          ),
        ),
      ),
    )

pub returns-clause-parents : goal.returns-clause-parents
returns-clause-parents g c = λ two full.
    let d = (goal.at.returns-clause-parents g c).After-up in
    let z : Zipper (Label TupleRef) = position c.args.editor.now in
    let fit : IsTTree g.row.MIN g.row.MAX (whole z) = subst (λ (t : Tree (Label TupleRef)). IsTTree g.row.MIN g.row.MAX t) c.requires.tree c.requires.fit in
    let parents : ParentsAreFull g.row.MAX (whole z) = subst (λ (t : Tree (Label TupleRef)). ParentsAreFull g.row.MAX t) c.requires.tree full in
    c.rebalance.ensures.full two
    (subst (λ (w : Zipper (Label TupleRef)). CanRiseFull g.row.MIN g.row.MAX w) (sym (there g d)) (grown_rises_full g.row.MAX g.row.MIN c.args.side z c.args.r c.requires.side c.requires.node c.requires.open c.requires.full fit parents))

pub returns-clause-nodes : goal.returns-clause-nodes
returns-clause-nodes g c =
    let d = (goal.at.returns-clause-nodes g c).After-up in
    omega (
      arith,
      c.rebalance.ensures.size,
      c.rebalance.ensures.spares,
      c.up.ensures.spares,
      c.new_leaf.ensures.spares,
      ap (λ (t : Tree (Label TupleRef)). size t) (grown g d),
      ap (λ (t : Tree (Label TupleRef)). size t) c.requires.tree,
      size_grown c.args.side (position c.args.editor.now) c.args.r c.requires.side c.requires.node c.requires.open,
    )
