-- What holds at each node of a tree.
use Rattle.ttree_node.specs.Tree.{Tree, empty, node, Frame, went_left, went_right, Label, plug}
use Rattle.std.proofs.Common.{List, [], ◌∷◌}
use Rattle.ttree_node.specs.Seen.{child}
use Rattle.ttree_node.specs.declared.node.Side.{Side}
use Rattle.ttree_node.specs.declared.node.Side.TheVariants.{Root, Left, Right}
use Rattle.ttree.specs.Shape.{EachNode}

module _ {I : Type 0} where
  -- a property of each node from another
  pub each_map : (P Q : Tree (Label I) → Label I → Tree (Label I) → Type 0) → ((l : Tree (Label I)) (x : Label I) (r : Tree (Label I)) → P l x r → Q l x r) → (t : Tree (Label I)) → EachNode P t → EachNode Q t
  each_map P Q f empty h = tt
  each_map P Q f (node l x r) h = (each_map P Q f l h.0, f l x r h.1, each_map P Q f r h.2)

  module _ (P : Tree (Label I) → Label I → Tree (Label I) → Type 0) where
    -- what holds at each node of the whole tree holds at each node of the tree at a place
    pub each_here : (c : List (Frame (Label I))) (t : Tree (Label I)) → EachNode P (plug c t) → EachNode P t
    each_here [] t h = h
    each_here (went_left x r ∷ c) t h = (each_here c (node t x r) h).0
    each_here (went_right l x ∷ c) t h = (each_here c (node l x t) h).2

    -- and of each child's tree
    pub each_child : (side : Side) (t : Tree (Label I)) → EachNode P t → EachNode P (child side t)
    each_child Root t h = tt
    each_child Left empty h = tt
    each_child Left (node l x r) h = h.0
    each_child Right empty h = tt
    each_child Right (node l x r) h = h.2
