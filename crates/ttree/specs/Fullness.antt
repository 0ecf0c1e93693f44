-- A tree in which each node that has a child is full, while balance comes back from the parent of a new leaf.
use Rattle.std.specs.Prelude.{◌≡◌, ℕ, ◌+◌, ◌<◌, ◌≤◌, length, false, ◌⊎◌}
use Rattle.ttree_node.specs.Tree.{Tree, Label, Zipper, plug, whole, height, has_left, has_right, left_of, right_of, items_of}
use Rattle.ttree_node.specs.Seen.{child, opposite}
use Rattle.ttree_node.specs.declared.node.Side.{Side}
use Rattle.ttree.specs.Shape.{IsTTree, ParentsAreFull}
use Rattle.ttree.specs.Rising.{IsNearTree}

module _ {I : Type 0} where
  -- A leaf that is the node's only child holds one item.
  pub record HasLeafOfOne (t : Tree (Label I)) : Type 0 where
    pub left : height (left_of t) ≡ 1 → has_right t ≡ false → length (items_of (left_of t)) ≡ 1
    pub right : has_left t ≡ false → height (right_of t) ≡ 1 → length (items_of (right_of t)) ≡ 1

  -- Each node that has a child is full. The root has one, and where that is a leaf alone, it holds one item.
  pub record IsGrown (most : ℕ) (t : Tree (Label I)) : Type 0 where
    pub parents : ParentsAreFull most t
    pub tall : 1 < height t
    pub half : HasLeafOfOne t

  -- The same, and where a child that is too high has a leaf alone, that leaf holds one item.
  pub record IsGrowing (most : ℕ) (t : Tree (Label I)) : Type 0 where
    pub grown : IsGrown most t
    pub leaning : (side : Side) → 2 + height (child (opposite side) t) ≤ height (child side t) → HasLeafOfOne (child side t)

  -- Each node that has a child is full. The tree was a T-tree with another subtree in this place, no higher than the one that is here, and lower where this one is out of balance.
  pub record CanRiseFull (least most : ℕ) (z : Zipper (Label I)) : Type 0 where
    pub was : Tree (Label I)
    pub was_fit : IsTTree least most (plug z.above was)
    pub parents : ParentsAreFull most (whole z)
    pub here : IsGrowing most z.here
    pub not_lower : height was ≤ height z.here
    pub higher : IsNearTree z.here ⊎ (height was < height z.here)

  -- The same, where balance has come back to this place.
  pub record HasRisenFull (least most : ℕ) (z : Zipper (Label I)) : Type 0 where
    pub was : Tree (Label I)
    pub was_fit : IsTTree least most (plug z.above was)
    pub parents : ParentsAreFull most (whole z)
    pub here : IsGrown most z.here
    pub not_lower : height was ≤ height z.here
