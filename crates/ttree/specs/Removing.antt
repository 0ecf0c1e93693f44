-- A T-tree from which an item was taken, before the node that lost it is merged or freed.
use Rattle.std.specs.Prelude.{◌≡◌, ℕ, ◌+◌, ◌-◌, ◌<◌, ◌≤◌, length, true, false, List, ◌∷◌, remove}
use Rattle.ttree_node.specs.Tree.{Tree, empty, node, Frame, went_right, Label, Zipper, at, plug, height, has_left, has_right, left_of, right_of, items_of, stated, new_items}
use Rattle.ttree.specs.Shape.{IsTTree}
use Rattle.ttree_node.specs.declared.node.Side.TheVariants.{Left}
use Rattle.ttree.specs.Rising.{IsNearTree, with_child}

module _ {X : Type 0} where
  -- the place of the rightmost node of a tree
  abbrev pub rightmost_from : List (Frame X) → Tree X → X → Tree X → Zipper X
  rightmost_from c l x empty = at c (node l x empty)
  rightmost_from c l x (node a y b) = rightmost_from (went_right l x ∷ c) a y b

  abbrev pub rightmost_at : List (Frame X) → Tree X → Zipper X
  rightmost_at c empty = at c empty
  rightmost_at c (node l x r) = rightmost_from c l x r

  abbrev pub rightmost : Zipper X → Zipper X
  rightmost z = rightmost_at z.above z.here

module _ {I : Type 0} where
  abbrev pub without_greatest_from : Tree (Label I) → Label I → Tree (Label I) → Tree (Label I)
  without_greatest_from l x empty = node l (record { items = remove x.items (length x.items - 1); height = x.height }) empty
  without_greatest_from l x (node a y b) = node l x (without_greatest_from a y b)

  -- the tree without the last item of its rightmost node
  abbrev pub without_greatest : Tree (Label I) → Tree (Label I)
  without_greatest empty = empty
  without_greatest (node l x r) = without_greatest_from l x r

  abbrev pub without_left_greatest : Tree (Label I) → Tree (Label I)
  without_left_greatest t = with_child Left (without_greatest (left_of t)) t

  -- The tree was a T-tree, and the node that is here held one item more.
  pub record HasLost (least most : ℕ) (z : Zipper (Label I)) : Type 0 where
    pub was : Tree (Label I)
    pub was_fit : IsTTree least most (plug z.above was)
    pub same : z.here ≡ new_items (items_of z.here) was
    pub one : length (items_of was) ≡ length (items_of z.here) + 1

  -- The tree was a T-tree, and the node that is here, which has a child, or a leaf below it held one item more.
  pub record HasLostBelow (least most : ℕ) (z : Zipper (Label I)) : Type 0 where
    pub was : Tree (Label I)
    pub was_fit : IsTTree least most (plug z.above was)
    pub tall : 1 < height was
    pub same : height z.here ≡ height was
    pub left_fit : IsTTree least most (left_of z.here)
    pub right_fit : IsTTree least most (right_of z.here)
    pub near : IsNearTree z.here
    pub true_height : stated z.here ≡ height z.here
    pub room : length (items_of z.here) ≤ most
    pub internal : has_left z.here ≡ true → has_right z.here ≡ true → least ≤ length (items_of z.here)
    pub left_half : has_left z.here ≡ true → has_right z.here ≡ false → least ≤ length (items_of z.here) + length (items_of (left_of z.here))
    pub right_half : has_left z.here ≡ false → has_right z.here ≡ true → least ≤ length (items_of z.here) + length (items_of (right_of z.here))
