-- What becomes of a node where balance comes back: its children turn about it, items fill the node that rises, and heights are stated anew.
use Rattle.std.specs.Prelude.{◌≡◌, ℕ, ◌+◌, ◌-◌, ◌<◌, ◌≤◌, min, length, true, false, ◌⊎◌}
use Rattle.ttree_node.specs.Tree.{Tree, empty, node, Label, Zipper, plug, size, height, is_node, has_left, has_right, left_of, right_of, items_of, new_height, height_over}
use Rattle.ttree_node.specs.Seen.{child, opposite, raised, giver, taker, slid}
use Rattle.ttree_node.specs.declared.node.Side.{Side}
use Rattle.ttree_node.specs.declared.node.Side.TheVariants.{Root, Left, Right}
use Rattle.ttree_node.specs.declared.node.Way.{Way}
use Rattle.ttree.specs.Shape.{IsTTree}
use Rattle.ttree.specs.Mending.{IsMendable, is_internal}

module _ {X : Type 0} where
  -- the node with another tree on that side
  abbrev pub with_child : Side → Tree X → Tree X → Tree X
  with_child side u empty = empty
  with_child Root u (node l x r) = node l x r
  with_child Left u (node l x r) = node u x r
  with_child Right u (node l x r) = node l x u

module _ {I : Type 0} where
  -- the node with its height stated anew
  abbrev pub restated : Tree (Label I) → Tree (Label I)
  restated t = new_height (height_over t) t

  abbrev pub restated_child : Side → Tree (Label I) → Tree (Label I)
  restated_child side t = with_child side (restated (child side t)) t

  -- so many items go that way that the node that takes them is full, or the one that gives them holds one
  abbrev pub fill_count : ℕ → Side → Way → Tree (Label I) → ℕ
  fill_count most side way t = min (most - length (items_of (taker way side t))) (length (items_of (giver way side t)) - 1)

  abbrev pub filled : ℕ → Side → Way → Tree (Label I) → Tree (Label I)
  filled most side way t = slid side way (fill_count most side way t) t

  -- A T-tree of the same shape, whose root holds at least `least` items if it is no leaf.
  pub record IsFilled (least most : ℕ) (t : Tree (Label I)) (u : Tree (Label I)) : Type 0 where
    pub fit : IsTTree least most u
    pub left : height (left_of u) ≡ height (left_of t)
    pub right : height (right_of u) ≡ height (right_of t)
    pub same : height u ≡ height t
    pub enough : 1 < height t → least ≤ length (items_of u)
    pub nodes : size u ≡ size t
    -- what holds that many already stays as it is
    pub kept : least ≤ length (items_of t) → u ≡ t

  -- The child on that side is too high by one.
  pub record Leans (side : Side) (least most : ℕ) (t : Tree (Label I)) : Type 0 where
    pub high_fit : IsTTree least most (child side t)
    pub low_fit : IsTTree least most (child (opposite side) t)
    pub high : height (child side t) ≡ 2 + height (child (opposite side) t)
    pub some : 0 < length (items_of t)
    pub fits : length (items_of t) ≤ most
    pub internal : is_node (child (opposite side) t) ≡ true → least ≤ length (items_of t)
    pub only : is_node (child (opposite side) t) ≡ false → is_internal (child side t) → least ≤ length (items_of t)

  -- the heights of the node's children differ by at most one
  abbrev pub IsNearTree : Tree (Label I) → Type 0
  IsNearTree t = (height (left_of t) ≤ 1 + height (right_of t)) × (height (right_of t) ≤ 1 + height (left_of t))

  abbrev pub IsMendableHere : ℕ → ℕ → Tree (Label I) → Type 0
  IsMendableHere least most empty = ⊥
  IsMendableHere least most (node l x r) = IsMendable least most l x r

  -- what was mendable is a T-tree, of its height or one lower, and is as it was if it was balanced
  pub record IsMendedTo (least most : ℕ) (t u : Tree (Label I)) : Type 0 where
    pub fit : IsTTree least most u
    pub not_higher : height u ≤ height t
    pub not_lower : height t ≤ 1 + height u
    pub kept : IsNearTree t → u ≡ new_height (height t) t
    pub nodes : size u ≡ size t

  -- a T-tree that may stand where another one stood, below a node that is then mendable
  pub record StandsMended (least most : ℕ) (was t : Tree (Label I)) : Type 0 where
    pub fit : IsTTree least most t
    pub some : 0 < height t
    pub was_some : 0 < height was
    pub not_higher : height t ≤ 1 + height was
    pub not_lower : height was ≤ 1 + height t
    pub leaf : height was ≡ 1 → height t ≡ 1 → length (items_of was) ≤ length (items_of t)
    pub one_child : height was ≡ 1 → (has_left t ≡ false) ⊎ (has_right t ≡ false)

  -- from this place up to the root nothing but what is above is left to mend, and the tree that stood here was so high before
  pub record HasRisen (least most before : ℕ) (z : Zipper (Label I)) : Type 0 where
    pub was : Tree (Label I)
    pub was_fit : IsTTree least most (plug z.above was)
    pub was_high : before ≡ height was
    pub here : StandsMended least most was z.here

module _ {I : Type 0} where
  -- the child on that side rises above the node, and both state their heights anew
  abbrev pub outer_turned : Side → Tree (Label I) → Tree (Label I)
  outer_turned side t = restated (restated_child (opposite side) (raised side t))

  -- the heights of both children and of the node stated anew
  abbrev pub all_restated : Tree (Label I) → Tree (Label I)
  all_restated t = restated (restated_child Right (restated_child Left t))

  -- the inner child of the child on that side takes that child's place
  abbrev pub inner_raised : Side → Tree (Label I) → Tree (Label I)
  inner_raised side t = with_child side (raised (opposite side) (child side t)) t

  -- and then that of the node too, and all three state their heights anew
  abbrev pub inner_turned : Side → Tree (Label I) → Tree (Label I)
  inner_turned side t = all_restated (raised side (inner_raised side t))

  -- the same, where the child on that side holds at least `least` items
  pub record IsInnerFilled (side : Side) (least most : ℕ) (t : Tree (Label I)) (u : Tree (Label I)) : Type 0 where
    pub fit : IsTTree least most u
    pub left : height (left_of u) ≡ height (left_of t)
    pub right : height (right_of u) ≡ height (right_of t)
    pub same : height u ≡ height t
    pub enough : least ≤ length (items_of (child side u))
    pub nodes : size u ≡ size t
    pub kept : least ≤ length (items_of (child side t)) → u ≡ t
    -- a leaf that holds fewer is full then, if there are enough items for that
    pub leaf_filled : height (child side t) ≡ 1 → length (items_of (child side t)) < least → most < length (items_of t) + length (items_of (child side t)) → most ≤ length (items_of (child side u))
