use Rattle.std.proofs.Common.{◌≡◌, ◌≤◌, ◌∙◌, ap, subst, sym}
use Rattle.part_raw.specs.declared.tuple_ref.TupleRef.{TupleRef}
use Rattle.ttree_node.specs.Tree.{Tree, empty, node, Zipper, Label, at, height}
use Rattle.ttree_node.specs.Seen.{child, on_side}
use Rattle.ttree_node.specs.Look.{position}
use Rattle.ttree_node.specs.Editor.{position as edited}
use Rattle.ttree.specs.Rising.{with_child}
use Rattle.ttree.specs.Shape.{HasTrueHeights, greatest_height}
use Rattle.ttree.proofs.Copies.{copied}
use Rattle.ttree.proofs.Packing.{up_hung}
use Rattle.ttree.proofs.copying.+copy_child.Goals as goal

pub returns-clause-copied : goal.returns-clause-copied
returns-clause-copied g t c =
    let side = c.args.side in
    let z : Zipper (Label TupleRef) = edited c.args.editor.now in
    let below : Tree (Label TupleRef) = (position c.in-Some.below).here in
    let here : below ≡ child side (position c.args.from.now).here = c.in-Some.ensures.here in
    let true_heights : HasTrueHeights below = subst (λ (t : Tree (Label TupleRef)). HasTrueHeights t) (sym here) c.requires.true_heights in
    let low : height below ≤ greatest_height = rw here c.requires.low in
    let leaf = c.hang_leaf.ensures.leaf ∙ ap (λ xs. at (on_side side z).above (node empty (record { items = xs; height = 1 }) empty)) c.items.ensures in
    let is : edited c.reheight.new.self ≡ at (on_side side z).above below =
    copied (on_side side z).above below (edited c.hang_leaf.new.editor) (edited c.copy_child.new.editor) (edited c.copy_child-2.new.editor) (edited c.reheight.new.self)
    c.in-Some.ensures.some true_heights low leaf c.copy_child.ensures.copied c.copy_child-2.ensures.copied c.reheight.ensures.height in
    c.up.ensures.moved ∙ up_hung side z (edited c.reheight.new.self) c.requires.side c.requires.node (ap (λ (y : Zipper (Label TupleRef)). y.above) is)
    ∙ ap (λ (t : Tree (Label TupleRef)). at z.above (with_child side t z.here)) (ap (λ (y : Zipper (Label TupleRef)). y.here) is ∙ here)
