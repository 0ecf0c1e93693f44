-- What a caller sees of linked nodes: a tree of item lists with stated heights, the number of spare nodes, and a place in the tree. No pointer occurs here.
use Rattle.std.specs.Prelude.{ℕ, ◌-◌, Option, Bool, true, false, List, ◌++◌, length, take, drop}
use Rattle.part_raw.specs.declared.tuple_ref.TupleRef.{TupleRef}
use Rattle.ttree_node.specs.Tree.{Tree, empty, Zipper, Label, relabel, relabel_zipper, down_left, down_right, left_of, right_of, merged_left, merged_right, rotated_left, rotated_right, items_of, dealt_left, dealt_right}
use Rattle.ttree_node.specs.declared.node.Side.{Side}
use Rattle.ttree_node.specs.declared.node.Side.TheVariants.{Root, Left, Right}
use Rattle.ttree_node.specs.declared.node.Way.{Way}
use Rattle.ttree_node.specs.declared.node.Way.TheVariants.{Up, Down}
use Rattle.ttree_node.specs.Linked.{located, zipper_at}
use Rattle.ttree_node.specs.declared.nodes.NodePlace.{NodePlace}
use Rattle.ttree_node.specs.declared.parts.Parts.{Parts}
use Rattle.ttree_node.specs.TreeWithSpares.{TreeWithSpares}

-- the tree that nodes are linked to
abbrev pub tree_of : {MAX : ℕ} → Parts MAX → Tree (Label TupleRef)
tree_of p = relabel (λ x. x.label) (located p)

-- the number of its spare nodes
abbrev pub spares_of : {MAX : ℕ} → Parts MAX → ℕ
spares_of p = p.spares

-- both, without the places at which they lie
abbrev pub shown : {MAX : ℕ} → Parts MAX → TreeWithSpares
shown p = record { tree = tree_of p; spares = spares_of p }

-- the place in the tree at which a node lies
abbrev pub position_at : {MAX : ℕ} → Parts MAX → Option NodePlace → Zipper (Label TupleRef)
position_at p q = relabel_zipper (λ x. x.label) (zipper_at p.nodes.held q)

-- where a child on that side of the place is, or the place itself for the root
abbrev pub on_side : {X : Type 0} → Side → Zipper X → Zipper X
on_side Root z = z
on_side Left z = down_left z
on_side Right z = down_right z

-- a child hangs on a node, and the root on nothing
abbrev pub hangs_on_node : Side → Bool
hangs_on_node Root = false
hangs_on_node Left = true
hangs_on_node Right = true

-- the child on that side of the node
abbrev pub child : {X : Type 0} → Side → Tree X → Tree X
child Root t = empty
child Left t = left_of t
child Right t = right_of t

abbrev pub opposite : Side → Side
opposite Root = Root
opposite Left = Right
opposite Right = Left

-- the child on that side takes the node's place
abbrev pub raised : {X : Type 0} → Side → Tree X → Tree X
raised Root t = t
raised Left t = rotated_right t
raised Right t = rotated_left t

-- the node has all items of its child on that side, a leaf, which is gone
abbrev pub merged : {I : Type 0} → Side → Tree (Label I) → Tree (Label I)
merged Root t = t
merged Left t = merged_left t
merged Right t = merged_right t

-- where items that go that way come from, and where they go to
abbrev pub giver : {X : Type 0} → Way → Side → Tree X → Tree X
giver Up side t = child side t
giver Down side t = t

abbrev pub taker : {X : Type 0} → Way → Side → Tree X → Tree X
taker Up side t = t
taker Down side t = child side t

-- one list beside another, on that side of it
abbrev pub beside : {I : Type 0} → Side → List I → List I → List I
beside Root xs ys = xs ++ ys
beside Left xs ys = xs ++ ys
beside Right xs ys = ys ++ xs

-- the last items on that side of a list, and the others
abbrev pub end_of : {I : Type 0} → Side → ℕ → List I → List I
end_of Root n xs = take n xs
end_of Left n xs = take n xs
end_of Right n xs = drop (length xs - n) xs

abbrev pub without_end : {I : Type 0} → Side → ℕ → List I → List I
without_end Root n xs = drop n xs
without_end Left n xs = drop n xs
without_end Right n xs = take (length xs - n) xs

-- the node with other items, and its child on that side too
abbrev pub dealt : {I : Type 0} → Side → List I → List I → Tree (Label I) → Tree (Label I)
dealt Root xs ys t = t
dealt Left xs ys t = dealt_left xs ys t
dealt Right xs ys t = dealt_right xs ys t

-- so many items go that way between the node and its child on that side, nearest first
abbrev pub slid : {I : Type 0} → Side → Way → ℕ → Tree (Label I) → Tree (Label I)
slid side Up n t = dealt side (beside side (end_of (opposite side) n (items_of (child side t))) (items_of t)) (without_end (opposite side) n (items_of (child side t))) t
slid side Down n t = dealt side (without_end side n (items_of t)) (beside (opposite side) (end_of side n (items_of t)) (items_of (child side t))) t
