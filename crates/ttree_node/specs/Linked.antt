-- How a set of nodes stands for a tree.
use Rattle.std.specs.Prelude.{◌≡◌, ℕ, zero, suc, ◌+◌, ◌<◌, ◌≤◌, ◌^◌, IsSome, Bool, true, not, nat_lt, cond, Option, Some, None, List, [], ◌∷◌, length}
use denote.RawPtr.{Ptr}
use Rattle.part_raw.specs.declared.tuple_ref.TupleRef.{TupleRef}
use Rattle.ttree_node.specs.Held.{same_place, node_at, update}
use Rattle.ttree_node.specs.Link.{relinked}
use Rattle.ttree_node.specs.Tree.{Tree, empty, node, Frame, went_left, went_right, Zipper, Label, at, size, is_node}
use Rattle.ttree_node.specs.declared.nodes.NodePlace.{NodePlace}
use Rattle.ttree_node.specs.declared.node.Node.{Node}
use Rattle.ttree_node.specs.declared.node.Side.{Side}
use Rattle.ttree_node.specs.declared.node.Side.TheVariants.{Root, Left, Right}
use Rattle.ttree_node.specs.declared.parts.Parts.{Parts}
use Rattle.ttree_node.specs.declared.parts.TheConstants.{MOST_ITEMS}

-- what is known of a node: where it lies, and its items and stated height
pub record Spot : Type 0 where
  pub place : Ptr
  pub label : Label TupleRef

abbrev pub spot : Ptr → Label TupleRef → Spot
spot p x = record { place = p; label = x }

abbrev pub there : Ptr → Option NodePlace
there p = Some (record { at = p })

-- the place of a tree's root
abbrev pub root_of : Tree Spot → Option NodePlace
root_of empty = None
root_of (node l x r) = there x.place

-- the place of the node above, and on which side of it one hangs
abbrev pub parent_of : List (Frame Spot) → Option NodePlace
parent_of [] = None
parent_of (went_left x r ∷ c) = there x.place
parent_of (went_right l x ∷ c) = there x.place

abbrev pub side_of : List (Frame Spot) → Side
side_of [] = Root
side_of (went_left x r ∷ c) = Left
side_of (went_right l x ∷ c) = Right

abbrev pub head_of : List Ptr → Option NodePlace
head_of [] = None
head_of (p ∷ ps) = there p

-- the root, where a child of the place is another: that child, if there is no place
abbrev pub rooted : Option NodePlace → Option NodePlace → Option NodePlace → Option NodePlace
rooted None q old = q
rooted (Some p) q old = old

-- a set has fewer nodes than these: more than any memory has, and few enough to be counted
abbrev pub node_limit : ℕ
node_limit = 2 ^ 40

-- how often a place occurs
module _ (q : Ptr) where
  abbrev pub one_if : Ptr → ℕ
  one_if p = cond (same_place q p) 1 0

  abbrev pub occurs : Tree Spot → ℕ
  occurs empty = 0
  occurs (node l x r) = one_if x.place + occurs l + occurs r

  abbrev pub occurs_above : List (Frame Spot) → ℕ
  occurs_above [] = 0
  occurs_above (went_left x r ∷ c) = one_if x.place + occurs r + occurs_above c
  occurs_above (went_right l x ∷ c) = one_if x.place + occurs l + occurs_above c

  abbrev pub occurs_in : List Ptr → ℕ
  occurs_in [] = 0
  occurs_in (p ∷ ps) = one_if p + occurs_in ps

module _ {MAX : ℕ} where
  -- the node with that label and these links
  abbrev pub node_for : Label TupleRef → Option NodePlace → Side → Option NodePlace → Option NodePlace → Node MAX
  node_for x parent side l r = record { head = record { height = x.height; side = side; left = l; right = r; parent = parent }; items = record { items = x.items } }

  -- the node with another child on that side
  abbrev pub with_link : Side → Option NodePlace → Node MAX → Node MAX
  with_link s q n = record n { head = relinked s q n.head }

  -- the set where the node at the place, if there is one, has another child on that side
  abbrev pub linked_down : Option NodePlace → Side → Option NodePlace → List (Ptr × Node MAX) → List (Ptr × Node MAX)
  linked_down None s q m = m
  linked_down (Some p) s q m = update p.at (with_link s q) m

  -- the node under another parent, on that side of it
  abbrev pub with_parent : Option NodePlace → Side → Node MAX → Node MAX
  with_parent q s n = record n { head = record n.head { parent = q; side = s } }

  -- the set where the node at the place, if there is one, hangs there
  abbrev pub linked_up : Option NodePlace → Option NodePlace → Side → List (Ptr × Node MAX) → List (Ptr × Node MAX)
  linked_up None q s m = m
  linked_up (Some p) q s m = update p.at (with_parent q s) m

  -- the set where the node at one place, if there is one, hangs on that side of the node at the other, if there is one
  abbrev pub hung : Option NodePlace → Option NodePlace → Side → List (Ptr × Node MAX) → List (Ptr × Node MAX)
  hung child parent s m = linked_up child parent s (linked_down parent s child m)

  module _ (m : List (Ptr × Node MAX)) where
    -- each node of the tree lies at its place, with true links
    abbrev pub Stands : Option NodePlace → Side → Tree Spot → Type 0
    Stands parent side empty = Unit {0}
    Stands parent side (node l x r) = (node_at x.place m ≡ Some (node_for x.label parent side (root_of l) (root_of r))) × Stands (there x.place) Left l × Stands (there x.place) Right r

    -- and so does each node above a tree whose root lies at r
    abbrev pub Around : Option NodePlace → List (Frame Spot) → Type 0
    Around r [] = Unit {0}
    Around r (went_left x t ∷ c) = (node_at x.place m ≡ Some (node_for x.label (parent_of c) (side_of c) r (root_of t))) × Stands (there x.place) Right t × Around (there x.place) c
    Around r (went_right t x ∷ c) = (node_at x.place m ≡ Some (node_for x.label (parent_of c) (side_of c) (root_of t) r)) × Stands (there x.place) Left t × Around (there x.place) c

    -- a node lies at the place, if it is one
    abbrev pub Present : Option NodePlace → Type 0
    Present None = Unit {0}
    Present (Some p) = IsSome (node_at p.at m)

    -- the spare nodes, of which each links the next
    abbrev pub Chained : List Ptr → Type 0
    Chained [] = Unit {0}
    Chained (p ∷ ps) = (node_at p m ≡ Some (node_for (record { items = []; height = 0 }) None Root (head_of ps) None)) × Chained ps

  abbrev pub label_of : Node MAX → Label TupleRef
  label_of n = record { items = n.items.items; height = n.head.height }

  abbrev pub grown : (Option NodePlace → Tree Spot) → Ptr → Option (Node MAX) → Tree Spot
  grown below p None = empty
  grown below p (Some n) = node (below n.head.left) (spot p (label_of n)) (below n.head.right)

  -- the tree whose root lies at a place, read along at most so many links in a row
  unfoldable pub read : ℕ → List (Ptr × Node MAX) → Option NodePlace → Tree Spot
  read zero m r = empty
  read (suc k) m None = empty
  read (suc k) m (Some p) = grown (read k m) p.at (node_at p.at m)

  abbrev pub climbed : (Option NodePlace → Tree Spot) → (Side → Option NodePlace → List (Frame Spot)) → Side → Ptr → Option (Node MAX) → List (Frame Spot)
  climbed below up s p None = []
  climbed below up Root p (Some n) = []
  climbed below up Left p (Some n) = went_left (spot p (label_of n)) (below n.head.right) ∷ up n.head.side n.head.parent
  climbed below up Right p (Some n) = went_right (below n.head.left) (spot p (label_of n)) ∷ up n.head.side n.head.parent

  -- the steps above a node that hangs on that side of a parent
  unfoldable pub read_above : ℕ → List (Ptr × Node MAX) → Side → Option NodePlace → List (Frame Spot)
  read_above zero m s r = []
  read_above (suc k) m s None = []
  read_above (suc k) m s (Some p) = climbed (read (length m) m) (read_above k m) s p.at (node_at p.at m)

  abbrev pub seen_from : List (Ptr × Node MAX) → Ptr → Option (Node MAX) → Zipper Spot
  seen_from m p None = at [] empty
  seen_from m p (Some n) = at (read_above (length m) m n.head.side n.head.parent) (read (length m) m (there p))

  -- the place in the tree at which a node lies, or that of the missing root
  abbrev pub zipper_at : List (Ptr × Node MAX) → Option NodePlace → Zipper Spot
  zipper_at m None = at [] empty
  zipper_at m (Some p) = seen_from m p.at (node_at p.at m)

  -- the tree of all nodes that are linked from the root
  abbrev pub located : Parts MAX → Tree Spot
  located p = read (length p.nodes.held) p.nodes.held p.root

  -- the tree t and the spare nodes ps are just what is held, each node once
  pub record Linked (p : Parts MAX) (t : Tree Spot) (ps : List Ptr) : Type 0 where
    pub stands : Stands p.nodes.held None Root t
    pub root : p.root ≡ root_of t
    pub chained : Chained p.nodes.held ps
    pub free : p.free ≡ head_of ps
    pub spares : p.spares ≡ length ps
    pub alone : (q : Ptr) → occurs q t + occurs_in q ps ≤ 1
    pub total : size t + length ps ≡ length p.nodes.held
    pub small : length p.nodes.held < node_limit
    -- no heap holds a node for more items
    pub narrow : 0 < length p.nodes.held → MAX ≤ MOST_ITEMS

  abbrev pub Sound : Parts MAX → Type 0
  Sound p = (t : Tree Spot) × (ps : List Ptr) × Linked p t ps

-- a node of the tree lies at the place, or there is neither a place nor a node
abbrev pub is_place_in : Tree Spot → Option NodePlace → Bool
is_place_in t None = not (is_node t)
is_place_in t (Some p) = nat_lt 0 (occurs p.at t)

abbrev pub IsPlaceIn : Tree Spot → Option NodePlace → Type 0
IsPlaceIn t place = is_place_in t place ≡ true
