use Rattle.std.proofs.Common.{◌≡◌, ◌∙◌, length, sym, ap, subst, arith}
use Rattle.std.proofs.lemmas.Bool.{eqb-true}
use Rattle.part_raw.specs.declared.tuple_ref.TupleRef.{TupleRef}
use Rattle.ttree_node.specs.Tree.{Tree, Zipper, Label, new_height, height_over, items_of}
use Rattle.ttree_node.specs.Seen.{child, on_side}
use Rattle.ttree_node.specs.Editor.{position}
use Rattle.ttree.specs.Packing.{HoldsPacked}
use Rattle.ttree.proofs.Packing.{holds_nothing, holds_built, up_hung, child_hung}
use Rattle.ttree.proofs.build.+build_child.Goals as goal

pub returns-then-is_empty-clause-built : goal.returns-then-is_empty-clause-built
returns-then-is_empty-clause-built g t c =
    holds_nothing g.row.MIN g.row.MAX c.args.refs.now (child c.args.side (position c.args.editor.now).here) (omega (arith, c.requires.two))
    (eqb-true (length c.args.refs.now) 0 (sym c.is_empty.ensures ∙ c.if-is_empty.true)) c.requires.open

pub returns-clause-built : goal.returns-clause-built
returns-clause-built g t c =
    let side = c.args.side in
    let z : Zipper (Label TupleRef) = position c.args.editor.now in
    let y0 : Zipper (Label TupleRef) = position c.hang_middle.new.editor in
    let y1 : Zipper (Label TupleRef) = position c.build_child.new.editor in
    let y2 : Zipper (Label TupleRef) = position c.build_child-2.new.editor in
    let y3 : Zipper (Label TupleRef) = position c.reheight.new.self in
    let here : y3.here ≡ new_height (height_over y2.here) y2.here = ap (λ (y : Zipper (Label TupleRef)). y.here) c.reheight.ensures.height in
    let built : HoldsPacked g.row.MIN g.row.MAX c.args.refs.now (new_height (height_over y2.here) y2.here) =
    holds_built g.row.MIN g.row.MAX c.requires.ordered c.requires.two c.args.refs.now c.hang_middle.result.0.now (items_of y0.here) c.hang_middle.result.1.now y0.here y1.here y2.here
    c.hang_middle.ensures.middle c.requires.short (ap (λ (y : Zipper (Label TupleRef)). y.here) c.hang_middle.ensures.leaf) c.build_child.ensures.rest c.build_child-2.ensures.rest
    c.build_child.ensures.built c.build_child-2.ensures.built in
    let above : y3.above ≡ (on_side side z).above =
    ap (λ (y : Zipper (Label TupleRef)). y.above) c.reheight.ensures.height ∙ c.build_child-2.ensures.above ∙ c.build_child.ensures.above
    ∙ ap (λ (y : Zipper (Label TupleRef)). y.above) c.hang_middle.ensures.leaf in
    let same : child side (position c.up.new.self).here ≡ y3.here =
    ap (λ (y : Zipper (Label TupleRef)). child side y.here) (c.up.ensures.moved ∙ up_hung side z y3 c.requires.side c.requires.node above) ∙ child_hung side y3.here z.here c.requires.side c.requires.node in
    subst (λ (u : Tree (Label TupleRef)). HoldsPacked g.row.MIN g.row.MAX c.args.refs.now u) (sym (same ∙ here)) built

pub returns-clause-spares : goal.returns-clause-spares
returns-clause-spares g t c =
    omega (arith, c.hang_middle.ensures.middle.nodes, c.hang_middle.ensures.spares, c.build_child.ensures.spares, c.build_child-2.ensures.spares, c.reheight.ensures.spares, c.up.ensures.spares)
