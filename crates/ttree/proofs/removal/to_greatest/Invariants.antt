use Rattle.std.proofs.Common.{◌≡◌}
use Rattle.ttree_node.specs.Tree.{size}
use Rattle.ttree_node.specs.Editor.{position, tree_at, spares_at}
use Rattle.ttree.specs.Removing.{rightmost}
use Rattle.ttree.proofs.removal.to_greatest.Given as goal

abbrev pub invariant-loop-editor : goal.invariant-loop-editor
invariant-loop-editor g l = record {
  same_reference : l.editor.nodes.ghost_name ≡ l.fn.editor.nodes.ghost_name;
  on_the_way : rightmost (position l.editor) ≡ rightmost (position l.fn.editor);
  tree : tree_at l.editor ≡ tree_at l.fn.editor;
  spares : spares_at l.editor ≡ spares_at l.fn.editor;
}

abbrev pub decreases-loop-editor : goal.decreases-loop-editor
decreases-loop-editor g l = size (position l.editor).here
