use Rattle.std.proofs.Common.{◌≡◌, ◌∙◌, List, [], length, sym, ap, subst, arith, rules}
use Rattle.std.proofs.lemmas.Bool.{eqb-true}
use Rattle.part_raw.specs.declared.tuple_ref.TupleRef.{TupleRef}
use Rattle.ttree_node.specs.Tree.{Tree, Frame, Zipper, Label, plug, is_node, items_of, new_height, height_over}
use Rattle.ttree_node.specs.Seen.{tree_of}
use Rattle.ttree_node.specs.Editor.{position, tree_at}
use Rattle.ttree.specs.Packing.{HoldsPacked}
use Rattle.ttree.proofs.Packing.{holds_nothing, holds_built}
use Rattle.ttree.proofs.build.build.Goals as goal

pub returns-then-is_empty-clause-built : goal.returns-then-is_empty-clause-built
returns-then-is_empty-clause-built g c =
    holds_nothing g.row.MIN g.row.MAX c.args.refs.now (tree_of c.args.nodes.now) (omega (arith, c.requires.two)) (eqb-true (length c.args.refs.now) 0 (sym c.is_empty.ensures ∙ c.if-is_empty.true))
    (ap (λ (t : Tree (Label TupleRef)). is_node t) c.requires.empty)

pub returns-clause-built : goal.returns-clause-built
returns-clause-built g c =
    let y0 : Zipper (Label TupleRef) = position c.hang_middle.new.editor in
    let y1 : Zipper (Label TupleRef) = position c.build_child.new.editor in
    let y2 : Zipper (Label TupleRef) = position c.build_child-2.new.editor in
    let y3 : Zipper (Label TupleRef) = position c.reheight.new.self in
    let here : y3.here ≡ new_height (height_over y2.here) y2.here = ap (λ (y : Zipper (Label TupleRef)). y.here) c.reheight.ensures.height in
    let built : HoldsPacked g.row.MIN g.row.MAX c.args.refs.now (new_height (height_over y2.here) y2.here) =
    holds_built g.row.MIN g.row.MAX c.requires.ordered c.requires.two c.args.refs.now c.hang_middle.result.0.now (items_of y0.here) c.hang_middle.result.1.now y0.here y1.here y2.here
    c.hang_middle.ensures.middle c.requires.short (ap (λ (y : Zipper (Label TupleRef)). y.here) c.hang_middle.ensures.leaf) c.build_child.ensures.rest c.build_child-2.ensures.rest
    c.build_child.ensures.built c.build_child-2.ensures.built in
    let above : y3.above ≡ [] =
    ap (λ (y : Zipper (Label TupleRef)). y.above) c.reheight.ensures.height ∙ c.build_child-2.ensures.above ∙ c.build_child.ensures.above
    ∙ ap (λ (y : Zipper (Label TupleRef)). y.above) c.hang_middle.ensures.leaf ∙ ap (λ (y : Zipper (Label TupleRef)). y.above) c.edit-editor.ensures.root in
    let is : tree_at c.reheight.new.self ≡ new_height (height_over y2.here) y2.here = c.reheight.ensures.tree ∙ ap (λ (a : List (Frame (Label TupleRef))). plug a y3.here) above ∙ here in
    let after : HoldsPacked g.row.MIN g.row.MAX c.args.refs.now (tree_at c.reheight.new.self) = subst (λ (u : Tree (Label TupleRef)). HoldsPacked g.row.MIN g.row.MAX c.args.refs.now u) (sym is) built in
    search (rules, after)
