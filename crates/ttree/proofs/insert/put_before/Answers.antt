use Rattle.std.proofs.Common.{◌∙◌, ◌++◌, ap, sym}
use Rattle.part_raw.specs.declared.tuple_ref.TupleRef.{TupleRef}
use Rattle.ttree_node.specs.Tree.{Zipper, Label, list, list_before, list_after}
use Rattle.ttree_node.specs.Editor.{position}
use Rattle.ttree.proofs.Puts.{list_grown_left, list_grown_right, with_item_left}
use Rattle.ttree.proofs.insert.put_before.Goals as goal

pub returns-then-not-has_left-clause-list : goal.returns-then-not-has_left-clause-list
returns-then-not-has_left-clause-list g c =
    let z : Zipper (Label TupleRef) = position c.args.editor.now in
    c.grow.ensures.list ∙ list_grown_left z c.args.item c.requires.node (sym c.has_left.ensures ∙ c.if-not-has_left.true)

pub returns-else-end-clause-list : goal.returns-else-end-clause-list
returns-else-end-clause-list g c =
    let z : Zipper (Label TupleRef) = position c.args.editor.now in
    let w : Zipper (Label TupleRef) = position c.to_rightmost.new.editor in
    let end = c.to_rightmost.ensures in
    let moved = c.down_left.ensures.moved in
    c.grow-else-end.ensures.list ∙ list_grown_right w c.args.item end.node end.open
    ∙ with_item_left z w c.args.item c.requires.node end.node end.open
    (end.ahead ∙ ap (λ (y : Zipper (Label TupleRef)). list_before y.above ++ list y.here) moved) (end.behind ∙ ap (λ (y : Zipper (Label TupleRef)). list_after y.above) moved)
