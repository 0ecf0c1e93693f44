-- A node that an edit below left out of balance, before its height is set and it is rotated.
use Rattle.std.specs.Prelude.{◌≡◌, ℕ, ◌+◌, ◌<◌, ◌≤◌, max, length, true, false, ◌⊎◌}
use Rattle.ttree_node.specs.Tree.{Tree, empty, node, Label, Zipper, plug, height, stated, is_node, left_of, right_of, items_of}
use Rattle.ttree.specs.Shape.{HasItems, IsNear, IsTTree}

module _ {I : Type 0} where
  -- the height that the node has, whatever it states
  abbrev pub height_of : Tree (Label I) → Tree (Label I) → ℕ
  height_of l r = 1 + max (height l) (height r)

  abbrev pub is_internal : Tree (Label I) → Type 0
  is_internal t = (is_node (left_of t) ≡ true) × (is_node (right_of t) ≡ true)

  -- Its children are T-trees whose heights differ by at most two, and it is full enough for what it is or is rotated to.
  pub record IsMendable (least most : ℕ) (l : Tree (Label I)) (x : Label I) (r : Tree (Label I)) : Type 0 where
    pub left_fit : IsTTree least most l
    pub right_fit : IsTTree least most r
    pub left_high : height l ≤ 2 + height r
    pub right_high : height r ≤ 2 + height l
    pub items : HasItems most l x r
    pub internal : is_node l ≡ true → is_node r ≡ true → least ≤ length x.items
    pub left_half : height l ≡ 1 → is_node r ≡ false → least + 1 ≤ length x.items + length (items_of l)
    pub right_half : is_node l ≡ false → height r ≡ 1 → least + 1 ≤ length x.items + length (items_of r)
    pub left_only : is_node r ≡ false → is_internal l → least ≤ length x.items
    pub right_only : is_node l ≡ false → is_internal r → least ≤ length x.items

  -- The tree was a T-tree with another subtree in this place, of nearly the height that is to be here.
  pub record StandsFor (was : Tree (Label I)) (l : Tree (Label I)) (x : Label I) (r : Tree (Label I)) : Type 0 where
    pub some : 0 < height was
    pub not_higher : height_of l r ≤ 1 + height was
    pub not_lower : height was ≤ 1 + height_of l r
    pub turned : IsNear l x r ⊎ (height was ≤ height_of l r)
    -- a leaf stays a leaf of as many items, or gets one child
    pub leaf : height was ≡ 1 → height_of l r ≡ 1 → length (items_of was) ≤ length x.items
    pub one_child : height was ≡ 1 → (is_node l ≡ false) ⊎ (is_node r ≡ false)

  abbrev pub IsMendableTree : ℕ → ℕ → Tree (Label I) → Tree (Label I) → Type 0
  IsMendableTree least most was empty = ⊥
  IsMendableTree least most was (node l x r) = IsMendable least most l x r × StandsFor was l x r

  -- From this place up to the root heights are to be set, and nodes rotated where they are not balanced. The node still states the height of the tree that stood here.
  pub record CanRise (least most : ℕ) (z : Zipper (Label I)) : Type 0 where
    pub was : Tree (Label I)
    pub was_fit : IsTTree least most (plug z.above was)
    pub stated : stated z.here ≡ height was
    pub here : IsMendableTree least most was z.here
