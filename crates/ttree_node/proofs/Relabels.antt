-- One node that has other items, or another stated height.
use Rattle.std.proofs.Common.{◌≡◌, ℕ, List, refl, sym, ◌∙◌}
use Rattle.std.specs.Prelude.{Option}
use denote.RawPtr.{Ptr}
use Rattle.part_raw.specs.declared.tuple_ref.TupleRef.{TupleRef}
use Rattle.ttree_node.specs.Held.{set_node}
use Rattle.ttree_node.specs.Tree.{Tree, node, Zipper, Label, at, plug, whole, relabel_zipper, with_items, with_height}
use Rattle.ttree_node.specs.Linked.{spot, there, root_of, parent_of, side_of, node_for, located, Sound, IsPlaceIn, is_place_in}
use Rattle.ttree_node.specs.Seen.{tree_of, position_at}
use Rattle.ttree_node.specs.declared.nodes.NodePlace.{NodePlace}
use Rattle.ttree_node.specs.declared.node.Node.{Node}
use Rattle.ttree_node.specs.declared.parts.Parts.{Parts}
use Rattle.ttree_node.proofs.Changes.{relabelled}
use Rattle.ttree_node.proofs.Spares.{located_is, some_place}
use Rattle.ttree_node.proofs.Standing.{label, placed_root, position_of, whole_is}
use Rattle.ttree_node.proofs.Visit.{Visit}

module _ {MAX : ℕ} where
  -- the parts are sound, and the place is where it is said to be
  pub record Now (p : Parts MAX) (place : Option NodePlace) (z : Zipper (Label TupleRef)) : Type 0 where
    pub sound : Sound p
    pub placed : IsPlaceIn (located p) place
    pub position : position_at p place ≡ z

  pub now_whole : (p : Parts MAX) (place : Option NodePlace) (z : Zipper (Label TupleRef)) → Now p place z → tree_of p ≡ whole (position_at p place)
  now_whole p place z k = sym (whole_is p k.sound place k.placed)

  module _ (p p' : Parts MAX) (place : Option NodePlace) (n : Node MAX) (v : Visit p place n) (root : p'.root ≡ p.root) (free : p'.free ≡ p.free) (spares : p'.spares ≡ p.spares) (q : Ptr) (is : place ≡ there q) where
    same : q ≡ v.at
    same = sym (some_place (sym v.place_is ∙ is))

    changed : (y : Label TupleRef) → p'.nodes.held ≡ set_node v.at (node_for y (parent_of v.standing.above) (side_of v.standing.above) (root_of v.standing.l) (root_of v.standing.r)) p.nodes.held
        → Now p' place (relabel_zipper label (at v.standing.above (node v.standing.l (spot v.at y) v.standing.r)))
    changed y held =
        let t : Tree _ = node v.standing.l (spot v.at y) v.standing.r in
        let k = relabelled p p' v.standing.above v.standing.l v.at v.standing.x y v.standing.r v.standing.spares v.standing.linked held root free spares in
        record {
          sound = (plug v.standing.above t, v.standing.spares, k);
          placed = (λ i. is_place_in (located_is p' (plug v.standing.above t) v.standing.spares k i) (v.place_is i)) ∙ placed_root v.standing.above t refl;
          position = (λ i. position_at p' (v.place_is i)) ∙ position_of p' v.standing.above t v.standing.spares k refl;
        }

    pub reitemed : (xs : List TupleRef) → p'.nodes.held ≡ set_node q (record n { items = record { items = xs } }) p.nodes.held → Now p' place (with_items xs (position_at p place))
    reitemed xs held =
        let k = changed (record { items = xs; height = v.standing.x.height }) (held ∙ (λ i. set_node (same i) (record (v.node_is i) { items = record { items = xs } }) p.nodes.held)) in
        record { sound = k.sound; placed = k.placed; position = k.position ∙ (λ i. with_items xs (sym v.position i)) }

    pub reheighted : (h : ℕ) → p'.nodes.held ≡ set_node q (record n { head = record n.head { height = h } }) p.nodes.held → Now p' place (with_height h (position_at p place))
    reheighted h held =
        let k = changed (record { items = v.standing.x.items; height = h }) (held ∙ (λ i. set_node (same i) (record (v.node_is i) { head = record (v.node_is i).head { height = h } }) p.nodes.held)) in
        record { sound = k.sound; placed = k.placed; position = k.position ∙ (λ i. with_height h (sym v.position i)) }
