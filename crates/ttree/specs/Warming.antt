-- Searches that go side by side: each is at a node of the tree, and met another last.
use Rattle.std.specs.Prelude.{◌≡◌, ℕ, true, All}
use Rattle.part_raw.specs.declared.tuple_ref.TupleRef.{TupleRef}
use Rattle.ttree_node.specs.Tree.{Tree, Label, whole, is_node}
use Rattle.ttree_node.specs.Look.{position}
use Rattle.ttree.specs.declared.warming.Way.{Way}
use Rattle.ttree.specs.declared.warming.Ways.{Ways}

-- both are nodes of this tree
pub record IsWay {MAX : ℕ} (tree : Tree (Label TupleRef)) (way : Way MAX) : Type 0 where
  pub node : is_node (position way.look).here ≡ true
  pub same : whole (position way.look) ≡ tree
  pub last_node : is_node (position way.last).here ≡ true
  pub last_same : whole (position way.last) ≡ tree

abbrev pub AreWays : {MAX : ℕ} → Tree (Label TupleRef) → Ways MAX → Type 0
AreWays tree ways = All (IsWay tree) ways.each
