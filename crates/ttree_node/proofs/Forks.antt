-- A node seen from one side: with the child on that side, and the other one.
use Rattle.std.proofs.Common.{◌≡◌, ℕ, ◌+◌, true, refl, arith}
use Rattle.std.specs.Prelude.{Option, Some, List}
use denote.RawPtr.{Ptr}
use Rattle.part_raw.specs.declared.tuple_ref.TupleRef.{TupleRef}
use Rattle.ttree_node.specs.Held.{node_at}
use Rattle.ttree_node.specs.Link.{child_link}
use Rattle.ttree_node.specs.Tree.{Tree, node, Label, size, relabel, is_node}
use Rattle.ttree_node.specs.Linked.{Spot, spot, there, root_of, one_if, occurs, node_for, with_link, with_parent, Stands}
use Rattle.ttree_node.specs.Seen.{child, opposite, hangs_on_node, raised}
use Rattle.ttree_node.specs.declared.nodes.NodePlace.{NodePlace}
use Rattle.ttree_node.specs.declared.node.Node.{Node}
use Rattle.ttree_node.specs.declared.node.Side.{Side}
use Rattle.ttree_node.specs.declared.node.Side.TheVariants.{Root, Left, Right}

abbrev pub fork : {X : Type 0} → Side → X → Tree X → Tree X → Tree X
fork Root x near far = node near x far
fork Left x near far = node near x far
fork Right x near far = node far x near

pub as_fork : {X : Type 0} (s : Side) → hangs_on_node s ≡ true → (l : Tree X) (x : X) (r : Tree X) → node l x r ≡ fork s x (child s (node l x r)) (child (opposite s) (node l x r))
as_fork Root h l x r = cc
as_fork Left h l x r = refl
as_fork Right h l x r = refl

pub raised_fork : {X Y : Type 0} (f : X → Y) (s : Side) → hangs_on_node s ≡ true → (x y : X) (outer inner far : Tree X)
    → relabel f (fork s y outer (fork s x inner far)) ≡ raised s (relabel f (fork s x (fork s y outer inner) far))
raised_fork f Root h x y outer inner far = cc
raised_fork f Left h x y outer inner far = refl
raised_fork f Right h x y outer inner far = refl

pub root_fork : (s : Side) (x : Spot) (near far : Tree Spot) → root_of (fork s x near far) ≡ there x.place
root_fork Root x near far = refl
root_fork Left x near far = refl
root_fork Right x near far = refl

pub fork_is_node : {X : Type 0} (s : Side) (x : X) (near far : Tree X) → is_node (fork s x near far) ≡ true
fork_is_node Root x near far = refl
fork_is_node Left x near far = refl
fork_is_node Right x near far = refl

pub size_fork : (s : Side) (x : Spot) (near far : Tree Spot) → size (fork s x near far) ≡ 1 + size near + size far
size_fork Root x near far = refl
size_fork Left x near far = refl
size_fork Right x near far = omega arith

pub occurs_fork : (q : Ptr) (s : Side) (x : Spot) (near far : Tree Spot) → occurs q (fork s x near far) ≡ one_if q x.place + occurs q near + occurs q far
occurs_fork q Root x near far = refl
occurs_fork q Left x near far = refl
occurs_fork q Right x near far = omega arith

module _ {MAX : ℕ} where
  abbrev pub fork_for : Side → Label TupleRef → Option NodePlace → Side → Option NodePlace → Option NodePlace → Node MAX
  fork_for Root x parent side near far = node_for x parent side near far
  fork_for Left x parent side near far = node_for x parent side near far
  fork_for Right x parent side near far = node_for x parent side far near

  pub stands_fork : (m : List (Ptr × Node MAX)) (s : Side) → hangs_on_node s ≡ true → (parent : Option NodePlace) (side : Side) (x : Spot) (near far : Tree Spot) → Stands m parent side (fork s x near far)
      → (node_at x.place m ≡ Some (fork_for s x.label parent side (root_of near) (root_of far))) × Stands m (there x.place) s near × Stands m (there x.place) (opposite s) far
  stands_fork m Root h parent side x near far k = cc
  stands_fork m Left h parent side x near far k = k
  stands_fork m Right h parent side x near far k = (k.0, k.2, k.1)

  pub fork_stands : (m : List (Ptr × Node MAX)) (s : Side) → hangs_on_node s ≡ true → (parent : Option NodePlace) (side : Side) (x : Spot) (near far : Tree Spot)
      → node_at x.place m ≡ Some (fork_for s x.label parent side (root_of near) (root_of far)) → Stands m (there x.place) s near → Stands m (there x.place) (opposite s) far → Stands m parent side (fork s x near far)
  fork_stands m Root h parent side x near far here n f = cc
  fork_stands m Left h parent side x near far here n f = (here, n, f)
  fork_stands m Right h parent side x near far here n f = (here, f, n)

  module _ (x : Label TupleRef) (parent : Option NodePlace) (side : Side) (near far : Option NodePlace) where
    -- the node that hangs elsewhere, with another child on that side, or on the other
    pub near_changed : (s : Side) → hangs_on_node s ≡ true → (q u : Option NodePlace) (t : Side) → with_parent q t (with_link s u (fork_for s x parent side near far)) ≡ fork_for s x q t u far
    near_changed Root h q u t = cc
    near_changed Left h q u t = refl
    near_changed Right h q u t = refl

    pub far_changed : (s : Side) → hangs_on_node s ≡ true → (q u : Option NodePlace) (t : Side) → with_parent q t (with_link (opposite s) u (fork_for s x parent side near far)) ≡ fork_for s x q t near u
    far_changed Root h q u t = cc
    far_changed Left h q u t = refl
    far_changed Right h q u t = refl

  -- a node as it is read, from that side
  pub for_fork : (s : Side) → hangs_on_node s ≡ true → (p : Ptr) (x : Label TupleRef) (parent : Option NodePlace) (side : Side) (l r : Tree Spot)
      → node_for x parent side (root_of l) (root_of r) ≡ fork_for s x parent side (root_of (child s (node l (spot p x) r))) (root_of (child (opposite s) (node l (spot p x) r)))
  for_fork Root h p x parent side l r = cc
  for_fork Left h p x parent side l r = refl
  for_fork Right h p x parent side l r = refl

module _ (MAX : ℕ) (x : Label TupleRef) (parent : Option NodePlace) (side : Side) (near far : Option NodePlace) where
  pub near_link : (s : Side) → hangs_on_node s ≡ true → child_link s (fork_for {MAX = MAX} s x parent side near far).head ≡ near
  near_link Root h = cc
  near_link Left h = refl
  near_link Right h = refl

  pub far_link : (s : Side) → hangs_on_node s ≡ true → child_link (opposite s) (fork_for {MAX = MAX} s x parent side near far).head ≡ far
  far_link Root h = cc
  far_link Left h = refl
  far_link Right h = refl

  pub place_link : (s : Side) → (fork_for {MAX = MAX} s x parent side near far).head.parent ≡ parent
  place_link Root = refl
  place_link Left = refl
  place_link Right = refl

  pub side_link : (s : Side) → (fork_for {MAX = MAX} s x parent side near far).head.side ≡ side
  side_link Root = refl
  side_link Left = refl
  side_link Right = refl
