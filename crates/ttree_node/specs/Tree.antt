-- Trees with a label at each node, and a place in a tree.
use Rattle.std.specs.Prelude.{◌≡◌, ℕ, ◌+◌, take, drop, max, min, Bool, true, false, List, [], ◌∷◌, ◌++◌}

-- empty, or a left tree, a label and a right tree
pub data Tree (X : Type 0) : Type 0 where
  empty : Tree X
  node : Tree X → X → Tree X → Tree X

-- a step down from a node, with the node's label and its other subtree
pub data Frame (X : Type 0) : Type 0 where
  went_left : X → Tree X → Frame X
  went_right : Tree X → X → Frame X

-- a place in a tree: the subtree that is there, and the steps above it, the last one first
pub record Zipper (X : Type 0) : Type 0 where
  pub above : List (Frame X)
  pub here : Tree X

-- the items of a node and its stated height
pub record Label (I : Type 0) : Type 0 where
  pub items : List I
  pub height : ℕ

abbrev pub at : {X : Type 0} → List (Frame X) → Tree X → Zipper X
at c t = record { above = c; here = t }

module _ {X : Type 0} where
  -- the number of nodes
  abbrev pub size : Tree X → ℕ
  size empty = 0
  size (node l x r) = 1 + size l + size r

  -- a leaf is 1 high, and a node one more than the higher of its subtrees
  abbrev pub height : Tree X → ℕ
  height empty = 0
  height (node l x r) = 1 + max (height l) (height r)

  -- the tree one step further up
  abbrev pub joined : Frame X → Tree X → Tree X
  joined (went_left x r) t = node t x r
  joined (went_right l x) t = node l x t

  -- the whole tree, with t at the end of the steps
  abbrev pub plug : List (Frame X) → Tree X → Tree X
  plug [] t = t
  plug (f ∷ c) t = plug c (joined f t)

  abbrev pub whole : Zipper X → Tree X
  whole z = plug z.above z.here

-- the same tree with other labels
module _ {X Y : Type 0} (f : X → Y) where
  abbrev pub relabel : Tree X → Tree Y
  relabel empty = empty
  relabel (node l x r) = node (relabel l) (f x) (relabel r)

  abbrev pub relabel_frame : Frame X → Frame Y
  relabel_frame (went_left x r) = went_left (f x) (relabel r)
  relabel_frame (went_right l x) = went_right (relabel l) (f x)

  abbrev pub relabel_frames : List (Frame X) → List (Frame Y)
  relabel_frames [] = []
  relabel_frames (g ∷ c) = relabel_frame g ∷ relabel_frames c

  abbrev pub relabel_zipper : Zipper X → Zipper Y
  relabel_zipper z = at (relabel_frames z.above) (relabel z.here)

module _ {I : Type 0} where
  -- the items in order: those of the left tree, the node's, those of the right tree
  abbrev pub list : Tree (Label I) → List I
  list empty = []
  list (node l x r) = list l ++ (x.items ++ list r)

-- ---- what is seen at a place, and the steps from it
module _ {X : Type 0} where
  abbrev pub is_node : Tree X → Bool
  is_node empty = false
  is_node (node l x r) = true

  abbrev pub left_of : Tree X → Tree X
  left_of empty = empty
  left_of (node l x r) = l

  abbrev pub right_of : Tree X → Tree X
  right_of empty = empty
  right_of (node l x r) = r

  abbrev pub has_left : Tree X → Bool
  has_left t = is_node (left_of t)

  abbrev pub has_right : Tree X → Bool
  has_right t = is_node (right_of t)

  abbrev pub is_root : List (Frame X) → Bool
  is_root [] = true
  is_root (f ∷ c) = false

  abbrev pub left_below : List (Frame X) → Tree X → Zipper X
  left_below c empty = at c empty
  left_below c (node l x r) = at (went_left x r ∷ c) l

  abbrev pub right_below : List (Frame X) → Tree X → Zipper X
  right_below c empty = at c empty
  right_below c (node l x r) = at (went_right l x ∷ c) r

  abbrev pub next_above : List (Frame X) → Tree X → Zipper X
  next_above [] t = at [] t
  next_above (f ∷ c) t = at c (joined f t)

  -- the path longer by a step to the left, or to the right
  abbrev pub down_left : Zipper X → Zipper X
  down_left z = left_below z.above z.here

  abbrev pub down_right : Zipper X → Zipper X
  down_right z = right_below z.above z.here

  -- the path shorter by its last step
  abbrev pub up : Zipper X → Zipper X
  up z = next_above z.above z.here

  -- the empty path
  abbrev pub to_root : Zipper X → Zipper X
  to_root z = at [] (whole z)

module _ {I : Type 0} where
  -- the items of the node, none where no node is
  abbrev pub items_of : Tree (Label I) → List I
  items_of empty = []
  items_of (node l x r) = x.items

  -- the stated height of the node, 0 where no node is
  abbrev pub stated : Tree (Label I) → ℕ
  stated empty = 0
  stated (node l x r) = x.height

  -- the node with other items
  abbrev pub new_items : List I → Tree (Label I) → Tree (Label I)
  new_items xs empty = empty
  new_items xs (node l x r) = node l (record { items = xs; height = x.height }) r

  -- the node with another stated height
  abbrev pub new_height : ℕ → Tree (Label I) → Tree (Label I)
  new_height h empty = empty
  new_height h (node l x r) = node l (record { items = x.items; height = h }) r

  -- the place with its node so changed
  abbrev pub with_items : List I → Zipper (Label I) → Zipper (Label I)
  with_items xs z = at z.above (new_items xs z.here)

  abbrev pub with_height : ℕ → Zipper (Label I) → Zipper (Label I)
  with_height h z = at z.above (new_height h z.here)

  -- one more than the higher stated height of the children, at most the greatest `u32`
  abbrev pub height_over : Tree (Label I) → ℕ
  height_over t = min (1 + max (stated (left_of t)) (stated (right_of t))) 4294967295

  -- the place with a new leaf of one item there
  abbrev pub with_leaf : I → Zipper (Label I) → Zipper (Label I)
  with_leaf i z = at z.above (node empty (record { items = i ∷ []; height = 1 }) empty)

module _ {X : Type 0} where
  -- a node with no children
  abbrev pub is_leaf : Tree X → Type 0
  is_leaf t = (is_node t ≡ true) × (has_left t ≡ false) × (has_right t ≡ false)

  -- no tree is here
  abbrev pub without_leaf : Zipper X → Zipper X
  without_leaf z = up (at z.above empty)

  -- the right child takes the node's place, and the node takes over the child's left subtree
  abbrev pub rotated_left : Tree X → Tree X
  rotated_left empty = empty
  rotated_left (node l x empty) = node l x empty
  rotated_left (node l x (node m y r)) = node (node l x m) y r

  -- the left child takes the node's place, and the node takes over the child's right subtree
  abbrev pub rotated_right : Tree X → Tree X
  rotated_right empty = empty
  rotated_right (node empty x r) = node empty x r
  rotated_right (node (node l y m) x r) = node l y (node m x r)

  -- the place with another tree there
  abbrev pub with_tree : (Tree X → Tree X) → Zipper X → Zipper X
  with_tree f z = at z.above (f z.here)

module _ {I : Type 0} where
  -- the node has all items of its right child, a leaf, which is gone
  abbrev pub merged_right : Tree (Label I) → Tree (Label I)
  merged_right empty = empty
  merged_right (node l x empty) = node l x empty
  merged_right (node l x (node m y r)) = node l (record { items = x.items ++ y.items; height = x.height }) empty

  -- the node has all items of its left child, a leaf, which is gone
  abbrev pub merged_left : Tree (Label I) → Tree (Label I)
  merged_left empty = empty
  merged_left (node empty x r) = node empty x r
  merged_left (node (node l y m) x r) = node empty (record { items = y.items ++ x.items; height = x.height }) r

  -- the node with other items, and its right child, or its left one, too
  abbrev pub dealt_right : List I → List I → Tree (Label I) → Tree (Label I)
  dealt_right xs ys empty = empty
  dealt_right xs ys (node l x r) = node l (record { items = xs; height = x.height }) (new_items ys r)

  abbrev pub dealt_left : List I → List I → Tree (Label I) → Tree (Label I)
  dealt_left xs ys empty = empty
  dealt_left xs ys (node l x r) = node (new_items ys l) (record { items = xs; height = x.height }) r

-- ---- the list from a place on, and up to it
module _ {I : Type 0} where
  -- what stands behind on the way up: for each step to the left the items of the node that it left and the list of its right tree, and for a step to the right nothing
  abbrev pub list_after : List (Frame (Label I)) → List I
  list_after [] = []
  list_after (went_left x r ∷ c) = x.items ++ (list r ++ list_after c)
  list_after (went_right l x ∷ c) = list_after c

  -- what stands behind the items of the node: the list of its right tree, and what stands behind on the way up
  abbrev pub list_behind : Zipper (Label I) → List I
  list_behind z = list (right_of z.here) ++ list_after z.above

  -- the list from item i of the node on
  abbrev pub list_from : ℕ → Zipper (Label I) → List I
  list_from i z = drop i (items_of z.here) ++ list_behind z

  -- what stands before on the way up: for each step to the right the list of the left tree of the node that it left and that node's items, and for a step to the left nothing
  abbrev pub list_before : List (Frame (Label I)) → List I
  list_before [] = []
  list_before (went_left x r ∷ c) = list_before c
  list_before (went_right l x ∷ c) = list_before c ++ (list l ++ x.items)

  -- the list up to item i of the node, without it
  abbrev pub list_until : ℕ → Zipper (Label I) → List I
  list_until i z = list_before z.above ++ (list (left_of z.here) ++ take i (items_of z.here))
