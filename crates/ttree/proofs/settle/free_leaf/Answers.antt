use Rattle.std.proofs.Common.{◌≡◌, ◌≤◌, ◌^◌, ◌+◌, ◌∙◌, length, true, sym, ap, subst, arith, lit<}
use Rattle.ttree_node.specs.Tree.{list, size, whole, is_node, without_leaf}
use Rattle.ttree_node.specs.Editor.{position, tree_at}
use Rattle.ttree.specs.Mending.{CanRise}
use Rattle.ttree.proofs.Losing.{dropped-rises, list-dropped, size-dropped}
use Rattle.ttree.proofs.settle.free_leaf.Goals as goal

pub rebalance-requires : goal.rebalance-requires
rebalance-requires g c =
    let z = position c.args.editor.now in
    let there : is_node (without_leaf z).here ≡ true = (λ i. is_node (sym c.drop_leaf.ensures.gone i).here) ∙ sym c.has_node.ensures ∙ c.if-has_node.true in
    let lists : list (tree_at c.drop_leaf.new.self) ≡ list (tree_at c.args.editor.now) =
    ap (λ t. list t) c.drop_leaf.ensures.tree ∙ (λ i. list (whole (c.drop_leaf.ensures.gone i))) ∙ list-dropped z c.requires.leaf c.requires.no_items ∙ sym (ap (λ t. list t) c.requires.tree) in (
      lit< tt,
      (
        c.requires.some,
        (
          c.requires.ordered,
          (
            c.requires.two,
            (
              subst (λ w. CanRise g.row.MIN g.row.MAX w) (sym c.drop_leaf.ensures.gone) (dropped-rises g.row.MIN g.row.MAX z c.requires.some c.requires.lost c.requires.leaf there),
              (c.drop_leaf.ensures.tree, subst (λ xs. length xs ≤ 2 ^ 32) (sym lists) c.requires.short),
            ),
          ),
        ),
      ),
    )

pub returns-then-has_node-clause-list : goal.returns-then-has_node-clause-list
returns-then-has_node-clause-list g c =
    let z = position c.args.editor.now in
    c.rebalance.ensures.list ∙ ap (λ t. list t) c.drop_leaf.ensures.tree ∙ (λ i. list (whole (c.drop_leaf.ensures.gone i))) ∙ list-dropped z c.requires.leaf c.requires.no_items ∙ sym (ap (λ t. list t) c.requires.tree)

pub returns-then-has_node-clause-nodes : goal.returns-then-has_node-clause-nodes
returns-then-has_node-clause-nodes g c =
    let z = position c.args.editor.now in
    let n : size (tree_at c.drop_leaf.new.self) + 1 ≡ size (tree_at c.args.editor.now) =
    (λ i. size (c.drop_leaf.ensures.tree i) + 1) ∙ (λ i. size (whole (c.drop_leaf.ensures.gone i)) + 1) ∙ size-dropped z c.requires.leaf ∙ sym (ap (λ t. size t) c.requires.tree) in
    omega (arith, n, c.rebalance.ensures.size, c.rebalance.ensures.spares, c.drop_leaf.ensures.spares)
