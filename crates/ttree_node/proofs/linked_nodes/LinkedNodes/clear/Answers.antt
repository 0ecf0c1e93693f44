use Rattle.std.proofs.Common.{◌∙◌, ◌<◌, sym, subst}
use Rattle.part_raw.specs.declared.tuple_ref.TupleRef.{TupleRef}
use Rattle.ttree_node.specs.Tree.{Zipper, Label, whole}
use Rattle.ttree_node.specs.Seen.{tree_of, position_at}
use Rattle.ttree_node.proofs.Depth.{to_do, left_less, right_less, drop_less}
use Rattle.ttree_node.proofs.linked_nodes.LinkedNodes.clear.Goals as goal

pub loop-place-smaller-then-has_left : goal.loop-place-smaller-then-has_left
loop-place-smaller-then-has_left g c =
    let s = c.loop-place.self in let z : Zipper (Label TupleRef) = position_at s c.loop-place.place in
    subst (λ (w : Zipper (Label TupleRef)). to_do (tree_of s) w < to_do (tree_of s) z) (sym c.left_of-place.ensures.moved) (left_less (tree_of s) z c.loop-place.invariant.1 (sym c.has_left.ensures ∙ c.if-has_left.true))

pub loop-place-smaller-then-has_right : goal.loop-place-smaller-then-has_right
loop-place-smaller-then-has_right g c =
    let s = c.loop-place.self in let z : Zipper (Label TupleRef) = position_at s c.loop-place.place in
    subst (λ (w : Zipper (Label TupleRef)). to_do (tree_of s) w < to_do (tree_of s) z) (sym c.right_of-place.ensures.moved) (right_less (tree_of s) z c.loop-place.invariant.1 (sym c.has_right.ensures ∙ c.if-has_right.true))

pub loop-place-smaller : goal.loop-place-smaller
loop-place-smaller g c =
    let s = c.loop-place.self in let z : Zipper (Label TupleRef) = position_at s c.loop-place.place in let done = c.drop_leaf-place.ensures in let n = c.drop_leaf-place.new.self in
    subst (λ (w : Zipper (Label TupleRef)). to_do (tree_of n) w < to_do (tree_of s) z) (sym done.gone)
    (drop_less (tree_of s) (tree_of n) z c.loop-place.invariant.1 (done.tree ∙ (λ i. whole (done.gone i))) (sym c.is_node.ensures.node ∙ c.loop-place-test.true, sym c.has_left.ensures ∙ c.if-has_left.false, sym c.has_right.ensures ∙ c.if-has_right.false))
