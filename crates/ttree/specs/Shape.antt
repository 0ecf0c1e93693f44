-- What a T-tree is beside its list: no node is empty, the children's heights differ by at most one, the stated heights are true, and the nodes are full enough.
use Rattle.std.specs.Prelude.{◌≡◌, ℕ, zero, suc, ◌+◌, ◌-◌, ◌^◌, ◌<◌, ◌≤◌, max, length, true, false}
use Rattle.std.specs.Int.Digits.{digits_of}
use Rattle.ttree_node.specs.Tree.{Tree, empty, node, Label, height, size, list, is_node, items_of}
use Rattle.ttree.specs.declared.shape.TreeShape.{TreeShape}

module _ {I : Type 0} where
  -- it holds at each node, with the node's left tree, its label and its right tree
  abbrev pub EachNode : (Tree (Label I) → Label I → Tree (Label I) → Type 0) → Tree (Label I) → Type 0
  EachNode P empty = Unit {0}
  EachNode P (node l x r) = EachNode P l × P l x r × EachNode P r

  -- ---- what holds at a node

  abbrev pub IsNear : Tree (Label I) → Label I → Tree (Label I) → Type 0
  IsNear l x r = (height l ≤ 1 + height r) × (height r ≤ 1 + height l)

  abbrev pub HasTrueHeight : Tree (Label I) → Label I → Tree (Label I) → Type 0
  HasTrueHeight l x r = x.height ≡ 1 + max (height l) (height r)

  abbrev pub HasItems : ℕ → Tree (Label I) → Label I → Tree (Label I) → Type 0
  HasItems most l x r = (0 < length x.items) × (length x.items ≤ most)

  -- A node with two children is internal and holds at least `least` items. A node with one child is a half-leaf: it and the child together hold at least one more.
  pub record IsOccupied (least : ℕ) (l : Tree (Label I)) (x : Label I) (r : Tree (Label I)) : Type 0 where
    pub internal : is_node l ≡ true → is_node r ≡ true → least ≤ length x.items
    pub left_half : is_node l ≡ true → is_node r ≡ false → least + 1 ≤ length x.items + length (items_of l)
    pub right_half : is_node l ≡ false → is_node r ≡ true → least + 1 ≤ length x.items + length (items_of r)

  -- ---- the whole tree

  abbrev pub IsBalanced : Tree (Label I) → Type 0
  IsBalanced t = EachNode IsNear t

  abbrev pub HasTrueHeights : Tree (Label I) → Type 0
  HasTrueHeights t = EachNode HasTrueHeight t

  -- no node is empty, and none holds more than `most` items
  abbrev pub HasItemsInEach : ℕ → Tree (Label I) → Type 0
  HasItemsInEach most t = EachNode (HasItems most) t

  abbrev pub IsOccupiedThroughout : ℕ → Tree (Label I) → Type 0
  IsOccupiedThroughout least t = EachNode (IsOccupied least) t

  -- a node of a T-tree of at least `least` and at most `most` items a node
  pub record IsFit (least most : ℕ) (l : Tree (Label I)) (x : Label I) (r : Tree (Label I)) : Type 0 where
    pub near : IsNear l x r
    pub true_height : HasTrueHeight l x r
    pub items : HasItems most l x r
    pub occupied : IsOccupied least l x r

  abbrev pub IsTTree : ℕ → ℕ → Tree (Label I) → Type 0
  IsTTree least most t = EachNode (IsFit least most) t

  -- ---- where items only came in

  -- A node that has a child holds as many items as a node may.
  pub record IsFullParent (most : ℕ) (l : Tree (Label I)) (x : Label I) (r : Tree (Label I)) : Type 0 where
    pub left : is_node l ≡ true → most ≤ length x.items
    pub right : is_node r ≡ true → most ≤ length x.items

  -- each node that has a child is full
  abbrev pub ParentsAreFull : ℕ → Tree (Label I) → Type 0
  ParentsAreFull most t = EachNode (IsFullParent most) t

-- 1, 1, and then each is the sum of the two before it: a balanced tree of height h has at least fib (h + 2) - 1 nodes
unfoldable pub fib : ℕ → ℕ
fib zero = 0
fib (suc zero) = 1
fib (suc (suc n)) = fib (suc n) + fib n

module _ {I : Type 0} where
  -- the shape that a T-tree keeps to: balanced at each node, stated heights true, no node empty or above `most` items, each with two children at least `least` and each with one at least one more together with it; so its height is logarithmic in its items
  pub record IsWellShaped (least most : ℕ) (t : Tree (Label I)) : Type 0 where
    pub balanced : IsBalanced t
    pub true_heights : HasTrueHeights t
    pub items : HasItemsInEach most t
    pub occupied : IsOccupiedThroughout least t
    pub low : fib (height t + 2) ≤ 1 + length (list t)

  -- what is told of a tree: its height, its nodes and its items
  pub record HasShape (t : Tree (Label I)) (shape : TreeShape) : Type 0 where
    pub height : shape.height ≡ height t
    pub nodes : shape.nodes ≡ size t
    pub items : shape.items ≡ length (list t)

-- the greatest height that a node can state
abbrev pub greatest_height : ℕ
greatest_height = 2 ^ 32 - 1

-- the number of binary digits
unfoldable pub binary_digits : ℕ → ℕ
binary_digits n = length (digits_of 2 n)
