-- What stays as one goes from node to node in list order, and how far it is to the end.
use Rattle.std.specs.Prelude.{ℕ, ◌+◌, List, [], ◌∷◌, ◌++◌}
use Rattle.ttree_node.specs.Tree.{Tree, empty, node, Frame, went_left, went_right, Zipper, Label, size, right_of, list, list_after}
use Rattle.ttree_node.specs.declared.node.Side.{Side}
use Rattle.ttree_node.specs.declared.node.Side.TheVariants.{Root, Left, Right}

-- the list of the whole subtree at a place, and what stands behind on the way up
abbrev pub list_onward : {I : Type 0} → Zipper (Label I) → List I
list_onward z = list z.here ++ list_after z.above

module _ {X : Type 0} where
  -- on which side of the node above one stands
  abbrev pub last_side : List (Frame X) → Side
  last_side [] = Root
  last_side (went_left x r ∷ c) = Left
  last_side (went_right l x ∷ c) = Right

  -- how many nodes stand behind on the way up
  abbrev pub nodes_after : List (Frame X) → ℕ
  nodes_after [] = 0
  nodes_after (went_left x r ∷ c) = 1 + (size r + nodes_after c)
  nodes_after (went_right l x ∷ c) = nodes_after c

  -- how many nodes stand behind the node
  abbrev pub nodes_behind : Zipper X → ℕ
  nodes_behind z = size (right_of z.here) + nodes_after z.above

  -- the same with the nodes of the whole subtree
  abbrev pub nodes_onward : Zipper X → ℕ
  nodes_onward z = size z.here + nodes_after z.above

  -- the same with the node alone, none where no node is
  abbrev pub nodes_at : Tree X → ℕ
  nodes_at empty = 0
  nodes_at (node l x r) = 1 + size r

  abbrev pub nodes_from : Zipper X → ℕ
  nodes_from z = nodes_at z.here + nodes_after z.above
