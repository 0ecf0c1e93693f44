use Rattle.std.proofs.Common.{◌≡◌, ◌≤◌, length}
use Rattle.ttree_node.specs.Tree.{list, size, whole}
use Rattle.ttree_node.specs.Editor.{position, tree_at, spares_at}
use Rattle.ttree.specs.Mending.{CanRise}
use Rattle.ttree.specs.Fullness.{CanRiseFull}
use Rattle.ttree.proofs.balance.rebalance.Given as goal

-- from the place on it can rise
abbrev pub invariant-loop-before : goal.invariant-loop-before
invariant-loop-before g l = record {
  same_reference : l.editor.nodes.ghost_name ≡ l.fn.editor.nodes.ghost_name;
  rises : CanRise g.row.MIN g.row.MAX (position l.editor);
  full : 2 ≤ g.row.MIN → CanRiseFull g.row.MIN g.row.MAX (position l.fn.editor) → CanRiseFull g.row.MIN g.row.MAX (position l.editor);
  tree : tree_at l.editor ≡ whole (position l.editor);
  list : list (tree_at l.editor) ≡ list (tree_at l.fn.editor);
  size : size (tree_at l.editor) ≡ size (tree_at l.fn.editor);
  spares : spares_at l.editor ≡ spares_at l.fn.editor;
}

abbrev pub decreases-loop-before : goal.decreases-loop-before
decreases-loop-before g l = length (position l.editor).above
