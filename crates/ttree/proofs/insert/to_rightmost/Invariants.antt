use Rattle.std.proofs.Common.{◌≡◌, ◌++◌, true}
use Rattle.ttree_node.specs.Tree.{whole, list, height, is_node, list_before, list_after}
use Rattle.ttree_node.specs.Editor.{position, tree_at, spares_at}
use Rattle.ttree.proofs.insert.to_rightmost.Given as goal

abbrev pub invariant-loop-editor : goal.invariant-loop-editor
invariant-loop-editor g l = record {
  same_reference : l.editor.nodes.ghost_name ≡ l.fn.editor.nodes.ghost_name;
  node : is_node (position l.editor).here ≡ true;
  whole : whole (position l.editor) ≡ whole (position l.fn.editor);
  ahead : list_before (position l.editor).above ++ list (position l.editor).here ≡ list_before (position l.fn.editor).above ++ list (position l.fn.editor).here;
  behind : list_after (position l.editor).above ≡ list_after (position l.fn.editor).above;
  tree : tree_at l.editor ≡ tree_at l.fn.editor;
  spares : spares_at l.editor ≡ spares_at l.fn.editor;
}

abbrev pub decreases-loop-editor : goal.decreases-loop-editor
decreases-loop-editor g l = height (position l.editor).here
