use Rattle.std.proofs.Common.{◌≡◌, ◌∙◌, ℕ, List, length, ap, sym}
use Rattle.part_raw.specs.declared.tuple_ref.TupleRef.{TupleRef}
use Rattle.ttree_node.specs.Tree.{Zipper, Label, items_of}
use Rattle.ttree_node.specs.Editor.{position}
use Rattle.ttree.specs.Searching.{with_item}
use Rattle.ttree.proofs.Puts.{list_grown_left, list_grown_right}
use Rattle.ttree.proofs.insert.put_at.Goals as goal

pub returns-then-index-eq0-clause-list : goal.returns-then-index-eq0-clause-list
returns-then-index-eq0-clause-list g c =
    let z : Zipper (Label TupleRef) = position c.args.editor.now in
    let e = c.if-index-eq0.true in
    c.grow.ensures.list ∙ list_grown_left z c.args.r c.requires.node (c.requires.left_open e) ∙ ap (λ (n : ℕ). with_item n c.args.r z) (sym e)

pub returns-then-index-count-clause-list : goal.returns-then-index-count-clause-list
returns-then-index-count-clause-list g c =
    let z : Zipper (Label TupleRef) = position c.args.editor.now in
    let e : c.args.index ≡ length (items_of z.here) = c.if-index-count.true ∙ ap (λ (xs : List TupleRef). length xs) c.items-count.ensures in
    c.grow-then-index-count.ensures.list ∙ list_grown_right z c.args.r c.requires.node (c.requires.right_open e) ∙ ap (λ (n : ℕ). with_item n c.args.r z) (sym e)
