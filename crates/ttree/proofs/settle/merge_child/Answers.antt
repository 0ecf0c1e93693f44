use Rattle.std.proofs.Common.{◌≡◌, ◌≤◌, ◌^◌, ◌+◌, ◌∙◌, length, false, sym, ap, subst, arith, lit<}
use Rattle.ttree_node.specs.Tree.{list, size, whole, is_node, is_leaf, items_of, with_tree}
use Rattle.ttree_node.specs.Editor.{position, tree_at}
use Rattle.ttree_node.specs.Seen.{child, opposite, merged}
use Rattle.ttree.specs.Shape.{IsTTree}
use Rattle.ttree.specs.Mending.{CanRise}
use Rattle.ttree.proofs.Losing.{size-merged}
use Rattle.ttree.proofs.Replacing.{leaf_below, merged-rises, kept-half}
use Rattle.ttree.proofs.settle.merge_child.Goals as goal

pub merge-requires : goal.merge-requires
merge-requires g c =
    let side = c.args.side in let z = position c.args.editor.now in let same = c.child_len.ensures.same_place in (
      lit< tt,
      (
        subst (λ w. is_leaf (child side w.here)) (sym same) (leaf_below g.row.MIN g.row.MAX side z.here c.requires.lost.near c.requires.child c.requires.other),
        (
          subst (λ w. is_node (child (opposite side) w.here) ≡ false) (sym same) c.requires.other,
          subst (λ w. length (items_of w.here) + length (items_of (child side w.here)) ≤ g.row.MAX) (sym same) (omega (arith, c.requires.lost.room, ap length c.items.ensures)),
        ),
      ),
    )

pub rebalance-requires : goal.rebalance-requires
rebalance-requires g c =
    let side = c.args.side in let z = position c.args.editor.now in let same = c.child_len.ensures.same_place in
    let rise : CanRise g.row.MIN g.row.MAX (with_tree (merged side) z) = merged-rises g.row.MIN g.row.MAX side z c.requires.some c.requires.lost c.requires.child c.requires.other (omega (arith, c.requires.lost.room, ap length c.items.ensures)) in
    let lists : list (tree_at c.merge.new.self) ≡ list (tree_at c.args.editor.now) = c.merge.ensures.list ∙ (λ i. list (whole (same i))) ∙ sym (ap (λ t. list t) c.requires.tree) in (
      lit< tt,
      (
        c.requires.some,
        (
          c.requires.ordered,
          (
            c.requires.two,
            (
              subst (λ w. CanRise g.row.MIN g.row.MAX w) (sym (c.merge.ensures.merged ∙ (λ i. with_tree (merged side) (same i)))) rise,
              (c.merge.ensures.tree, subst (λ xs. length xs ≤ 2 ^ 32) (sym lists) c.requires.short),
            ),
          ),
        ),
      ),
    )

pub returns-then-child_len-free-clause-nodes : goal.returns-then-child_len-free-clause-nodes
returns-then-child_len-free-clause-nodes g c =
    let side = c.args.side in let z = position c.args.editor.now in let same = c.child_len.ensures.same_place in
    let n : size (tree_at c.merge.new.self) + 1 ≡ size (tree_at c.args.editor.now) =
    (λ i. size (c.merge.ensures.tree i) + 1) ∙ (λ i. size (whole (c.merge.ensures.merged i)) + 1) ∙ (λ i. size (whole (with_tree (merged side) (same i))) + 1)
    ∙ size-merged side z (leaf_below g.row.MIN g.row.MAX side z.here c.requires.lost.near c.requires.child c.requires.other) ∙ sym (ap (λ t. size t) c.requires.tree)
    in
    omega (arith, n, c.rebalance.ensures.size, c.rebalance.ensures.spares, c.merge.ensures.spares, c.child_len.ensures.spares)

pub returns-else-child_len-free-clause-fit : goal.returns-else-child_len-free-clause-fit
returns-else-child_len-free-clause-fit g c =
    let z = position c.args.editor.now in
    let fit : IsTTree g.row.MIN g.row.MAX (whole z) = kept-half g.row.MIN g.row.MAX c.args.side z c.requires.ordered c.requires.lost c.requires.child c.requires.other (omega (arith, c.requires.lost.room, ap length c.items.ensures)) in
    subst (λ t. IsTTree g.row.MIN g.row.MAX t) (sym (c.child_len.ensures.tree ∙ c.requires.tree)) fit
