-- A node of the tree, and the steps from it.
use Rattle.std.proofs.Common.{◌≡◌, ℕ, true, List, [], ◌∷◌, refl, sym, ap, ◌∙◌, subst, arith}
use Rattle.std.specs.Prelude.{Option, Some, None}
use Rattle.std.specs.Option.{is_some}
use Rattle.std.proofs.lemmas.Bool.{lt-ltb}
use denote.RawPtr.{Ptr}
use Rattle.part_raw.specs.declared.tuple_ref.TupleRef.{TupleRef}
use Rattle.ttree_node.specs.Held.{node_at}
use Rattle.ttree_node.specs.Tree.{Tree, empty, node, Frame, went_left, went_right, Zipper, Label, at, size, plug, whole, joined, relabel, relabel_frame, relabel_frames, relabel_zipper, is_node, left_of, right_of, has_left, has_right, is_root, down_left, down_right, up, items_of, stated}
use Rattle.ttree_node.specs.Linked.{Spot, spot, there, root_of, parent_of, side_of, node_for, zipper_at, occurs, located, Linked, Sound, IsPlaceIn, is_place_in}
use Rattle.ttree_node.specs.Seen.{tree_of, position_at}
use Rattle.ttree_node.specs.declared.nodes.NodePlace.{NodePlace}
use Rattle.ttree_node.specs.declared.parts.Parts.{Parts}
use Rattle.ttree_node.proofs.Shape.{one_same, occurs_plug, unplug, zipper_is, CutTree, cut_tree}
use Rattle.ttree_node.proofs.Spares.{located_is}

abbrev pub label : Spot → Label TupleRef
label x = x.label

pub is_node_relabel : {X Y : Type 0} (f : X → Y) (t : Tree X) → is_node (relabel f t) ≡ is_node t
is_node_relabel f empty = refl
is_node_relabel f (node l x r) = refl

pub relabel_plug : {X Y : Type 0} (f : X → Y) (c : List (Frame X)) (t : Tree X) → relabel f (plug c t) ≡ plug (relabel_frames f c) (relabel f t)
relabel_plug f [] t = refl
relabel_plug f (went_left x r ∷ c) t = relabel_plug f c (node t x r)
relabel_plug f (went_right l x ∷ c) t = relabel_plug f c (node l x t)

pub placed_root : (c : List (Frame Spot)) (t : Tree Spot) → is_node t ≡ true → IsPlaceIn (plug c t) (root_of t)
placed_root c empty h = cc
placed_root c (node l x r) h = lt-ltb 0 (occurs x.place (plug c (node l x r))) (omega (arith, occurs_plug x.place c (node l x r), one_same x.place))

no_tree : (t : Tree Spot) → IsPlaceIn t None → empty ≡ relabel label t
no_tree empty h = refl
no_tree (node l x r) h = cc

at_top : (t : Tree Spot) → IsPlaceIn t (root_of t)
at_top empty = refl
at_top (node l x r) = placed_root [] (node l x r) refl

module _ {MAX : ℕ} where
  pub zipper_of : (p : Parts MAX) (c : List (Frame Spot)) (t : Tree Spot) (ps : List Ptr) → Linked p (plug c t) ps → is_node t ≡ true → zipper_at p.nodes.held (root_of t) ≡ at c t
  zipper_of p c empty ps k h = cc
  zipper_of p c (node l x r) ps k h =
      let z = unplug p.nodes.held c (node l x r) k.stands in
      zipper_is p.nodes.held c l x r z.0 z.1 (omega (arith, k.total))

  pub position_of : (p : Parts MAX) (c : List (Frame Spot)) (t : Tree Spot) (ps : List Ptr) → Linked p (plug c t) ps → is_node t ≡ true → position_at p (root_of t) ≡ relabel_zipper label (at c t)
  position_of p c t ps k h = ap (λ z. relabel_zipper label z) (zipper_of p c t ps k h)

  top : (p : Parts MAX) (t : Tree Spot) (ps : List Ptr) → Linked p t ps → position_at p (root_of t) ≡ at [] (relabel label t)
  top p empty ps k = refl
  top p (node l x r) ps k = position_of p [] (node l x r) ps k refl

  -- a node of the tree, with what is around it
  pub record Standing (p : Parts MAX) (q : Ptr) : Type 0 where
    pub above : List (Frame Spot)
    pub l : Tree Spot
    pub x : Label TupleRef
    pub r : Tree Spot
    pub spares : List Ptr
    pub linked : Linked p (plug above (node l (spot q x) r)) spares
    pub node : node_at q p.nodes.held ≡ Some (node_for x (parent_of above) (side_of above) (root_of l) (root_of r))
    pub position : position_at p (there q) ≡ relabel_zipper label (at above (Rattle.ttree_node.specs.Tree.node l (spot q x) r))

  pub standing : (p : Parts MAX) → Sound p → (q : Ptr) → IsPlaceIn (located p) (there q) → Standing p q
  standing p s q h =
      let c : CutTree q s.0 = cut_tree q s.0 (subst (λ t. IsPlaceIn t (there q)) (located_is p s.0 s.1 s.2) h) in
      let k : Linked p (plug c.above (node c.below_left (spot q c.label) c.below_right)) s.1 = subst (λ t. Linked p t s.1) c.is s.2 in
      record {
        above = c.above;
        l = c.below_left;
        x = c.label;
        r = c.below_right;
        spares = s.1;
        linked = k;
        node = (unplug p.nodes.held c.above (node c.below_left (spot q c.label) c.below_right) k.stands).1.0;
        position = position_of p c.above (node c.below_left (spot q c.label) c.below_right) s.1 k refl;
      }

  pub root_placed : (p : Parts MAX) → Sound p → IsPlaceIn (located p) p.root
  root_placed p s =
      let e = located_is p s.0 s.1 s.2 in
      (λ i. is_place_in (e i) (s.2.root i)) ∙ at_top s.0

  pub root_position : (p : Parts MAX) → Sound p → position_at p p.root ≡ at [] (tree_of p)
  root_position p s =
      let e = located_is p s.0 s.1 s.2 in
      (λ i. position_at p (s.2.root i)) ∙ top p s.0 s.1 s.2 ∙ (λ i. at [] (relabel label (sym e i)))

  module _ (p : Parts MAX) (q : Ptr) (s : Standing p q) where
    abbrev here : Tree Spot
    here = node s.l (spot q s.x) s.r

    in_tree : (c : List (Frame Spot)) (t : Tree Spot) → plug c t ≡ plug s.above here → is_node t ≡ true → IsPlaceIn (located p) (root_of t)
    in_tree c t e h = (λ i. is_place_in ((located_is p (plug s.above here) s.spares s.linked ∙ sym e) i) (root_of t)) ∙ placed_root c t h

    -- a step to the root of t, which stands below c
    pub step_placed : (c : List (Frame Spot)) (t : Tree Spot) → plug c t ≡ plug s.above here → is_node t ≡ true → (to : Option NodePlace) → to ≡ root_of t → IsPlaceIn (located p) to
    step_placed c t e h to same = (λ i. is_place_in (located p) (same i)) ∙ in_tree c t e h

    pub step_moved : (c : List (Frame Spot)) (t : Tree Spot) → plug c t ≡ plug s.above here → is_node t ≡ true → (to : Option NodePlace) → to ≡ root_of t → position_at p to ≡ relabel_zipper label (at c t)
    step_moved c t e h to same = (λ i. position_at p (same i)) ∙ position_of p c t s.spares (subst (λ u. Linked p u s.spares) (sym e) s.linked) h

  -- the place and the steps above it are the whole tree
  pub whole_is : (p : Parts MAX) → Sound p → (place : Option NodePlace) → IsPlaceIn (located p) place → whole (position_at p place) ≡ tree_of p
  whole_is p s None h = no_tree (located p) h
  whole_is p s (Some q) h =
      let z = standing p s q.at h in let here : Tree Spot = node z.l (spot q.at z.x) z.r in
      (λ i. whole (z.position i)) ∙ sym (relabel_plug label z.above here) ∙ (λ i. relabel label (sym (located_is p (plug z.above here) z.spares z.linked) i))

  pub node_seen : (p : Parts MAX) → Sound p → (place : Option NodePlace) → IsPlaceIn (located p) place → is_some place ≡ is_node (position_at p place).here
  node_seen p s None h = refl
  node_seen p s (Some q) h = let z = standing p s q.at h in λ i. is_node (sym z.position i).here
