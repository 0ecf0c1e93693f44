-- A node that is read, and what its links and fields say of the place in the tree.
use Rattle.std.proofs.Common.{◌≡◌, ℕ, ◌≤◌, true, false, not, List, [], ◌∷◌, refl, sym, ap, ◌∙◌, subst, arith}
use Rattle.std.specs.Prelude.{Option, Some, IsSome}
use Rattle.std.specs.Option.{is_some}
use denote.RawPtr.{Ptr}
use Rattle.ttree_node.specs.Held.{node_at}
use Rattle.ttree_node.specs.Tree.{Tree, empty, node, Frame, went_left, went_right, Zipper, Label, at, plug, joined, relabel, relabel_frame, relabel_frames, relabel_zipper, is_node, left_of, right_of, has_left, has_right, is_root, down_left, down_right, up, items_of, stated}
use Rattle.ttree_node.specs.Linked.{Spot, spot, there, root_of, parent_of, side_of, node_for, located, Sound, IsPlaceIn, is_place_in}
use Rattle.ttree_node.specs.Seen.{position_at}
use Rattle.ttree_node.specs.declared.nodes.NodePlace.{NodePlace}
use Rattle.ttree_node.specs.declared.node.HeadFields.{HeadFields}
use Rattle.ttree_node.specs.declared.node.Node.{Node}
use Rattle.ttree_node.specs.declared.parts.Parts.{Parts}
use Rattle.ttree_node.proofs.Standing.{label, is_node_relabel, Standing, standing, step_placed, step_moved}
use Rattle.ttree_node.proofs.Spares.{some_node}
use Rattle.ttree_node.proofs.Shape.{size_plug}
use Rattle.ttree_node.specs.declared.parts.TheConstants.{MOST_ITEMS}

some_root : (t : Tree Spot) → is_some (root_of t) ≡ is_node (relabel label t)
some_root empty = refl
some_root (node l x r) = refl

module _ {MAX : ℕ} where
  pub record Visit (p : Parts MAX) (place : Option NodePlace) (n : Node MAX) : Type 0 where
    pub at : Ptr
    pub standing : Standing p at
    pub place_is : place ≡ there at
    pub node_is : n ≡ node_for standing.x (parent_of standing.above) (side_of standing.above) (root_of standing.l) (root_of standing.r)
    pub position : position_at p place ≡ relabel_zipper label (Rattle.ttree_node.specs.Tree.at standing.above (node standing.l (spot at standing.x) standing.r))

  module _ (p inside : Parts MAX) (view : inside ≡ p) (s : Sound inside) (place : Option NodePlace) (found : NodePlace) (is : place ≡ Some found) (placed : IsPlaceIn (located p) place) where
    stands : Standing p found.at
    stands = standing p (subst Sound view s) found.at ((λ i. is_place_in (located p) (sym is i)) ∙ placed)

    pub present : IsSome (node_at found.at inside.nodes.held)
    present = subst (λ o. IsSome o) (sym ((λ i. node_at found.at (view i).nodes.held) ∙ stands.node)) refl

    pub visit : (n : Node MAX) → node_at found.at inside.nodes.held ≡ Some n → Visit p place n
    visit n got = record {
      at = found.at;
      standing = stands;
      place_is = is;
      node_is = some_node (sym got ∙ (λ i. node_at found.at (view i).nodes.held) ∙ stands.node);
      position = (λ i. position_at p (is i)) ∙ stands.position;
    }

  module _ (p : Parts MAX) (place : Option NodePlace) (n : Node MAX) (v : Visit p place n) where
    abbrev s : Standing p v.at
    s = v.standing

    pub left_seen : is_some n.head.left ≡ has_left (position_at p place).here
    left_seen = (λ i. is_some (v.node_is i).head.left) ∙ some_root s.l ∙ (λ i. has_left (sym v.position i).here)

    pub right_seen : is_some n.head.right ≡ has_right (position_at p place).here
    right_seen = (λ i. is_some (v.node_is i).head.right) ∙ some_root s.r ∙ (λ i. has_right (sym v.position i).here)

    root_seen_at : (c : List (Frame Spot)) → is_root (relabel_frames label c) ≡ not (is_some (parent_of c))
    root_seen_at [] = refl
    root_seen_at (went_left x r ∷ c) = refl
    root_seen_at (went_right l x ∷ c) = refl

    pub root_seen : not (is_some n.head.parent) ≡ is_root (position_at p place).above
    root_seen = (λ i. not (is_some (v.node_is i).head.parent)) ∙ sym (root_seen_at s.above) ∙ (λ i. is_root (sym v.position i).above)

    pub narrow_here : MAX ≤ MOST_ITEMS
    narrow_here = s.linked.narrow (omega (arith, s.linked.total, size_plug s.above (node s.l (spot v.at s.x) s.r)))

    pub items_seen : n.items.items ≡ items_of (position_at p place).here
    items_seen = (λ i. (v.node_is i).items.items) ∙ (λ i. items_of (sym v.position i).here)

    pub height_seen : n.head.height ≡ stated (position_at p place).here
    height_seen = (λ i. (v.node_is i).head.height) ∙ (λ i. stated (sym v.position i).here)

    pub left_placed : has_left (position_at p place).here ≡ true → IsPlaceIn (located p) n.head.left
    left_placed h = step_placed p v.at s (went_left (spot v.at s.x) s.r ∷ s.above) s.l refl (sym (is_node_relabel label s.l) ∙ (λ i. has_left (sym v.position i).here) ∙ h) n.head.left (ap (λ (m : Node MAX). m.head.left) v.node_is)

    pub left_moved : has_left (position_at p place).here ≡ true → position_at p n.head.left ≡ down_left (position_at p place)
    left_moved h = step_moved p v.at s (went_left (spot v.at s.x) s.r ∷ s.above) s.l refl (sym (is_node_relabel label s.l) ∙ (λ i. has_left (sym v.position i).here) ∙ h) n.head.left (ap (λ (m : Node MAX). m.head.left) v.node_is)
        ∙ (λ i. down_left (sym v.position i))

    pub right_placed : has_right (position_at p place).here ≡ true → IsPlaceIn (located p) n.head.right
    right_placed h = step_placed p v.at s (went_right s.l (spot v.at s.x) ∷ s.above) s.r refl (sym (is_node_relabel label s.r) ∙ (λ i. has_right (sym v.position i).here) ∙ h) n.head.right (ap (λ (m : Node MAX). m.head.right) v.node_is)

    pub right_moved : has_right (position_at p place).here ≡ true → position_at p n.head.right ≡ down_right (position_at p place)
    right_moved h = step_moved p v.at s (went_right s.l (spot v.at s.x) ∷ s.above) s.r refl (sym (is_node_relabel label s.r) ∙ (λ i. has_right (sym v.position i).here) ∙ h) n.head.right (ap (λ (m : Node MAX). m.head.right) v.node_is)
        ∙ (λ i. down_right (sym v.position i))

    -- a node above, as a place of its own
    record Higher (to : Option NodePlace) : Type 0 where
      pub above : List (Frame Spot)
      pub tree : Tree Spot
      pub same : plug above tree ≡ plug s.above (node s.l (spot v.at s.x) s.r)
      pub is : is_node tree ≡ true
      pub root : to ≡ root_of tree
      pub moved : relabel_zipper label (Rattle.ttree_node.specs.Tree.at above tree) ≡ up (relabel_zipper label (Rattle.ttree_node.specs.Tree.at s.above (node s.l (spot v.at s.x) s.r)))

    higher : (c : List (Frame Spot)) → s.above ≡ c → is_root (relabel_frames label c) ≡ false → (to : Option NodePlace) → to ≡ parent_of c → Higher to
    higher [] e h to is = cc
    higher (went_left x r ∷ c) e h to is = record { above = c; tree = node (node s.l (spot v.at s.x) s.r) x r; same = λ i. plug (sym e i) (node s.l (spot v.at s.x) s.r); is = refl; root = is; moved = λ i. up (relabel_zipper label (Rattle.ttree_node.specs.Tree.at (sym e i) (node s.l (spot v.at s.x) s.r))) }
    higher (went_right l x ∷ c) e h to is = record { above = c; tree = node l x (node s.l (spot v.at s.x) s.r); same = λ i. plug (sym e i) (node s.l (spot v.at s.x) s.r); is = refl; root = is; moved = λ i. up (relabel_zipper label (Rattle.ttree_node.specs.Tree.at (sym e i) (node s.l (spot v.at s.x) s.r))) }

    raised : is_root (position_at p place).above ≡ false → Higher n.head.parent
    raised h = higher s.above refl ((λ i. is_root (sym v.position i).above) ∙ h) n.head.parent (ap (λ (m : Node MAX). m.head.parent) v.node_is)

    pub parent_placed : is_root (position_at p place).above ≡ false → IsPlaceIn (located p) n.head.parent
    parent_placed h = let k = raised h in step_placed p v.at s k.above k.tree k.same k.is n.head.parent k.root

    pub parent_moved : is_root (position_at p place).above ≡ false → position_at p n.head.parent ≡ up (position_at p place)
    parent_moved h = let k = raised h in step_moved p v.at s k.above k.tree k.same k.is n.head.parent k.root ∙ k.moved ∙ (λ i. up (sym v.position i))

-- what is read of a node's links is a node with them
pub with_head : {MAX : ℕ} {o : Option (Node MAX)} {v : Node MAX} {l : HeadFields} → o ≡ Some v → l ≡ v.head → o ≡ Some (record v { head = l })
with_head {v = v} there read = there ∙ (λ i. Some (record v { head = sym read i }))
