-- How many inserts are sure of a node: by the spare nodes, and by what the nodes of a T-tree hold at least.
use Rattle.std.specs.Prelude.{ℕ, ◌+◌, ◌-◌, ◌*◌, ◌/◌, max, length}
use Rattle.std.specs.Int.{div_ceil}
use Rattle.ttree_node.specs.Tree.{size}
use Rattle.ttree_node.specs.Seen.{shown}
use Rattle.ttree_node.specs.TreeWithSpares.{TreeWithSpares}
use Rattle.ttree_node.specs.declared.editor.Editor.{Editor}
use Rattle.ttree.specs.Held.{items_of_tree}

-- the nodes of the tree and the spare ones together
abbrev pub nodes_of : TreeWithSpares → ℕ
nodes_of t = size t.tree + t.spares

abbrev pub nodes_at : {MAX : ℕ} → Editor MAX → ℕ
nodes_at editor = nodes_of (shown editor.nodes.now)

-- A T-tree holds at least half of `least` for each node but one. So as long as it holds fewer than this, one of so many nodes is spare.
unfoldable pub fewest_held : ℕ → ℕ → ℕ
fewest_held least nodes = least * (nodes - 1) / 2

-- Each spare node serves one insert, and so do as many references as are wanting to the fewest that all the nodes can hold.
abbrev pub room_of : ℕ → TreeWithSpares → ℕ
room_of least t = max t.spares (fewest_held least (nodes_of t) - length (items_of_tree t))

-- so many nodes that a T-tree which has them all holds no fewer references than these
unfoldable pub nodes_for : ℕ → ℕ → ℕ
nodes_for least references = 1 + div_ceil (2 * references) least
