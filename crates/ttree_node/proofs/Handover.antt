-- What a node and its child on a side are where items go from one to the other.
use Rattle.std.proofs.Common.{◌≡◌, true, false, List, refl}
use Rattle.ttree_node.specs.Tree.{Tree, empty, node, Frame, Label, at, is_node, items_of, with_items, without_leaf, with_tree, up, is_root}
use Rattle.ttree_node.specs.Seen.{child, on_side, beside, dealt, merged}
use Rattle.ttree_node.specs.declared.node.Side.{Side}
use Rattle.ttree_node.specs.declared.node.Side.TheVariants.{Root, Left, Right}

-- what has a child is a node
pub parent_node : {X : Type 0} (s : Side) (t : Tree X) → is_node (child s t) ≡ true → is_node t ≡ true
parent_node Root t h = cc
parent_node Left empty h = h
parent_node Left (node l x r) h = refl
parent_node Right empty h = h
parent_node Right (node l x r) h = refl

module _ {I : Type 0} (c : List (Frame (Label I))) where
  pub right_here : (t : Tree (Label I)) → (on_side Right (at c t)).here ≡ child Right t
  right_here empty = refl
  right_here (node l x r) = refl

  pub side_here : (s : Side) (t : Tree (Label I)) → is_node (child s t) ≡ true → (on_side s (at c t)).here ≡ child s t
  side_here Root t h = cc
  side_here Left empty h = refl
  side_here Left (node l x r) h = refl
  side_here Right t h = right_here t

  pub child_kept : (s : Side) (xs : List I) (t : Tree (Label I)) → child s (with_items xs (at c t)).here ≡ child s t
  child_kept Root xs t = refl
  child_kept Left xs empty = refl
  child_kept Left xs (node l x r) = refl
  child_kept Right xs empty = refl
  child_kept Right xs (node l x r) = refl

  pub is_merged : (s : Side) (t : Tree (Label I)) → is_node (child s t) ≡ true
      → without_leaf (on_side s (with_items (beside s (items_of (child s t)) (items_of t)) (at c t))) ≡ with_tree (merged s) (at c t)
  is_merged Root t h = cc
  is_merged Left empty h = cc
  is_merged Left (node empty x r) h = cc
  is_merged Left (node (node l y m) x r) h = refl
  is_merged Right empty h = cc
  is_merged Right (node l x empty) h = cc
  is_merged Right (node l x (node m y r)) h = refl

  pub is_dealt : (s : Side) (xs ys : List I) (t : Tree (Label I)) → is_node (child s t) ≡ true → up (with_items ys (on_side s (with_items xs (at c t)))) ≡ with_tree (dealt s xs ys) (at c t)
  is_dealt Root xs ys t h = cc
  is_dealt Left xs ys empty h = cc
  is_dealt Left xs ys (node l x r) h = refl
  is_dealt Right xs ys empty h = cc
  is_dealt Right xs ys (node l x r) h = refl

  pub is_below : (s : Side) (xs ys : List I) (t : Tree (Label I)) → is_node (child s t) ≡ true → is_root (with_items ys (on_side s (with_items xs (at c t)))).above ≡ false
  is_below Root xs ys t h = cc
  is_below Left xs ys empty h = cc
  is_below Left xs ys (node l x r) h = refl
  is_below Right xs ys empty h = cc
  is_below Right xs ys (node l x r) h = refl
