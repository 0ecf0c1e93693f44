-- Where a leaf comes and goes, in the words of the contracts.
use Rattle.std.proofs.Common.{◌≡◌, ℕ, ◌+◌, ◌<◌, true, false, cond, List, [], ◌∷◌, refl, sym, ap, ◌∙◌, subst, arith}
use Rattle.std.specs.Prelude.{Option, Some, None, IsSome}
use Rattle.std.proofs.lemmas.List.{nil_from_length}
use denote.RawPtr.{Ptr}
use Rattle.part_raw.specs.declared.tuple_ref.TupleRef.{TupleRef}
use Rattle.ttree_node.specs.Held.{same_place, node_at, set_node}
use Rattle.ttree_node.specs.Tree.{Tree, empty, node, Frame, went_left, went_right, Label, at, size, plug, relabel, relabel_zipper, is_node, has_left, has_right, down_left, down_right, up, with_leaf, without_leaf}
use Rattle.ttree_node.specs.Linked.{Spot, spot, there, parent_of, side_of, head_of, node_for, Present, linked_down, rooted, located, Linked, Sound, IsPlaceIn, is_place_in}
use Rattle.ttree_node.specs.Seen.{tree_of, position_at, on_side, child, hangs_on_node}
use Rattle.ttree_node.specs.declared.nodes.NodePlace.{NodePlace}
use Rattle.ttree_node.specs.declared.node.Node.{Node}
use Rattle.ttree_node.specs.declared.node.Side.{Side}
use Rattle.ttree_node.specs.declared.node.Side.TheVariants.{Root, Left, Right}
use Rattle.ttree_node.specs.declared.parts.Parts.{Parts}
use Rattle.ttree_node.proofs.LeafEdits.{leaf, leafed, dropped}
use Rattle.ttree_node.proofs.Refit.{top_present}
use Rattle.ttree_node.proofs.Relabels.{Now}
use Rattle.ttree_node.proofs.Shape.{unplug, size_relabel}
use Rattle.ttree_node.proofs.Spares.{blank, located_is, some_place, First, first_spare}
use Rattle.ttree_node.proofs.Standing.{label, placed_root, position_of, standing, node_seen}
use Rattle.ttree_node.proofs.Visit.{Visit}

no_place : (t : Tree Spot) → IsPlaceIn t None → t ≡ empty
no_place empty h = refl
no_place (node l x r) h = cc

no_node : (t : Tree Spot) → is_node (relabel label t) ≡ false → t ≡ empty
no_node empty h = refl
no_node (node l x r) h = cc

pub kept_present : {X : Type 0} (p q : Ptr) (w : X) (m : List (Ptr × X)) → IsSome (node_at p m) → IsSome (node_at p (set_node q w m))
kept_present p q w [] h = h
kept_present p q w (e ∷ m) h = (elim (same_place q e.0) as (λ s. IsSome (node_at p (cond s ((e.0, w) ∷ m) (e ∷ set_node q w m)))) [
  | true ↦ (elim (same_place p e.0) as (λ t. IsSome (cond t (Some e.1) (node_at p m)) → IsSome (cond t (Some w) (node_at p m))) [ true ↦ λ _. refl | false ↦ λ r. r ]) h
  | false ↦ (elim (same_place p e.0) as (λ t. IsSome (cond t (Some e.1) (node_at p m)) → IsSome (cond t (Some e.1) (node_at p (set_node q w m)))) [ true ↦ λ r. r | false ↦ λ r. kept_present p q w m r ]) h
])

module _ {MAX : ℕ} where
  -- a place at which no tree hangs
  pub record Open (p : Parts MAX) (place : Option NodePlace) (side : Side) : Type 0 where
    pub above : List (Frame Spot)
    pub spares : List Ptr
    pub linked : Linked p (plug above empty) spares
    pub parent_is : place ≡ parent_of above
    pub side_is : side ≡ side_of above
    pub position : relabel_zipper label (at above empty) ≡ on_side side (position_at p place)

  pub opened : (p : Parts MAX) → Sound p → (place : Option NodePlace) → IsPlaceIn (located p) place → (side : Side) → is_node (position_at p place).here ≡ hangs_on_node side → is_node (child side (position_at p place).here) ≡ false → Open p place side
  opened p s None h Root fits free =
      let none : s.0 ≡ empty = no_place s.0 ((λ i. is_place_in (sym (located_is p s.0 s.1 s.2) i) None) ∙ h) in
      record { above = []; spares = s.1; linked = subst (λ t. Linked p t s.1) none s.2; parent_is = refl; side_is = refl; position = refl }
  opened p s None h Left fits free = cc
  opened p s None h Right fits free = cc
  opened p s (Some q) h Root fits free = let seen : true ≡ false = node_seen p s (Some q) h ∙ fits in cc
  opened p s (Some q) h Left fits free =
      let z = standing p s q.at h in let none : z.l ≡ empty = no_node z.l ((λ i. has_left (sym z.position i).here) ∙ free) in
      record {
        above = went_left (spot q.at z.x) z.r ∷ z.above;
        spares = z.spares;
        linked = subst (λ t. Linked p (plug z.above (node t (spot q.at z.x) z.r)) z.spares) none z.linked;
        parent_is = refl;
        side_is = refl;
        position = (λ i. relabel_zipper label (at (went_left (spot q.at z.x) z.r ∷ z.above) (sym none i))) ∙ (λ i. down_left (sym z.position i));
      }
  opened p s (Some q) h Right fits free =
      let z = standing p s q.at h in let none : z.r ≡ empty = no_node z.r ((λ i. has_right (sym z.position i).here) ∙ free) in
      record {
        above = went_right z.l (spot q.at z.x) ∷ z.above;
        spares = z.spares;
        linked = subst (λ t. Linked p (plug z.above (node z.l (spot q.at z.x) t)) z.spares) none z.linked;
        parent_is = refl;
        side_is = refl;
        position = (λ i. relabel_zipper label (at (went_right z.l (spot q.at z.x) ∷ z.above) (sym none i))) ∙ (λ i. down_right (sym z.position i));
      }

  pub open_present : (p : Parts MAX) (place : Option NodePlace) (side : Side) (o : Open p place side) → Present p.nodes.held place
  open_present p place side o = subst (λ q. Present p.nodes.held q) (sym o.parent_is) (top_present p.nodes.held None o.above (unplug p.nodes.held o.above empty o.linked.stands).0)

  pub leaf_made : (p p' : Parts MAX) (place : Option NodePlace) (side : Side) (o : Open p place side) (item : TupleRef) (q : NodePlace) → 0 < p.spares → p.free ≡ Some q
      → p'.nodes.held ≡ linked_down place side (Some q) (set_node q.at (node_for (record { items = item ∷ []; height = 1 }) place side None None) p.nodes.held)
      → p'.root ≡ rooted place (Some q) p.root → ((t : Tree Spot) (ps : List Ptr) → Linked p t (q.at ∷ ps) → p'.free ≡ head_of ps) → p'.spares + 1 ≡ p.spares
      → Now p' (Some q) (with_leaf item (on_side side (position_at p place)))
  leaf_made p p' place side o item q some free held root next spares =
      let x : Label TupleRef = record { items = item ∷ []; height = 1 } in
      let f : First p (plug o.above empty) = first_spare p (plug o.above empty) o.spares o.linked some in
      let is : q.at ≡ f.place = some_place (sym free ∙ f.found) in
      let k : Linked p (plug o.above empty) (q.at ∷ f.rest) = subst (λ r. Linked p (plug o.above empty) (r ∷ f.rest)) (sym is) f.linked in
      let done : Linked p' (plug o.above (leaf q.at x)) f.rest = leafed p p' o.above q.at x f.rest k
      (held ∙ (λ i. linked_down (o.parent_is i) (o.side_is i) (Some q) (set_node q.at (node_for x (o.parent_is i) (o.side_is i) None None) p.nodes.held)))
      (root ∙ (λ i. rooted (o.parent_is i) (Some q) p.root)) (next (plug o.above empty) f.rest k) spares in
      record {
        sound = (plug o.above (leaf q.at x), f.rest, done);
        placed = (λ i. is_place_in (located_is p' (plug o.above (leaf q.at x)) f.rest done i) (Some q)) ∙ placed_root o.above (leaf q.at x) refl;
        position = position_of p' o.above (leaf q.at x) f.rest done refl ∙ (λ i. with_leaf item (o.position i));
      }

  pub set_present : (m : List (Ptr × Node MAX)) (q : Ptr) (w : Node MAX) (o : Option NodePlace) → Present m o → Present (set_node q w m) o
  set_present m q w None h = tt
  set_present m q w (Some p) h = kept_present p.at q w m h

  pub parent_present : (p : Parts MAX) (place : Option NodePlace) (n : Node MAX) → Visit p place n → Present p.nodes.held n.head.parent
  parent_present p place n v =
      let z = v.standing in
      subst (λ o. Present p.nodes.held o) (sym (ap (λ (m : Node MAX). m.head.parent) v.node_is)) (top_present p.nodes.held (there v.at) z.above (unplug p.nodes.held z.above (node z.l (spot v.at z.x) z.r) z.linked.stands).0)

  at_parent : (p' : Parts MAX) (c : List (Frame Spot)) (ps : List Ptr) → Linked p' (plug c empty) ps → Now p' (parent_of c) (up (relabel_zipper label (at c empty)))
  at_parent p' [] ps k = record { sound = (empty, ps, k); placed = λ i. is_place_in (located_is p' empty ps k i) None; position = refl }
  at_parent p' (went_left x r ∷ c) ps k = let t : Tree Spot = node empty x r in
      record { sound = (plug c t, ps, k); placed = (λ i. is_place_in (located_is p' (plug c t) ps k i) (there x.place)) ∙ placed_root c t refl; position = position_of p' c t ps k refl }
  at_parent p' (went_right l x ∷ c) ps k = let t : Tree Spot = node l x empty in
      record { sound = (plug c t, ps, k); placed = (λ i. is_place_in (located_is p' (plug c t) ps k i) (there x.place)) ∙ placed_root c t refl; position = position_of p' c t ps k refl }

  pub leaf_gone : (p p' : Parts MAX) (place : Option NodePlace) (n : Node MAX) (v : Visit p place n) (q : NodePlace) → place ≡ Some q
      → has_left (position_at p place).here ≡ false → has_right (position_at p place).here ≡ false
      → p'.nodes.held ≡ linked_down n.head.parent n.head.side None (set_node q.at (blank p.free) p.nodes.held) → p'.root ≡ rooted n.head.parent None p.root → p'.free ≡ Some q → p'.spares ≡ p.spares + 1
      → Now p' n.head.parent (without_leaf (position_at p place))
  leaf_gone p p' place n v q is nl nr held root free spares =
      let z = v.standing in
      let same : v.at ≡ q.at = some_place (sym v.place_is ∙ is) in
      let no_left : z.l ≡ empty = no_node z.l ((λ i. has_left (sym v.position i).here) ∙ nl) in let no_right : z.r ≡ empty = no_node z.r ((λ i. has_right (sym v.position i).here) ∙ nr) in
      let k : Linked p (plug z.above (leaf q.at z.x)) z.spares = subst (λ (t : Tree Spot × Tree Spot × Ptr). Linked p (plug z.above (node t.0 (spot t.2 z.x) t.1)) z.spares) (λ i. (no_left i, no_right i, same i)) z.linked in
      let up_is : n.head.parent ≡ parent_of z.above = ap (λ (m : Node MAX). m.head.parent) v.node_is in let side_is : n.head.side ≡ side_of z.above = ap (λ (m : Node MAX). m.head.side) v.node_is in
      let done : Linked p' (plug z.above empty) (q.at ∷ z.spares) = dropped p p' z.above q.at z.x z.spares k (held ∙ (λ i. linked_down (up_is i) (side_is i) None (set_node q.at (blank p.free) p.nodes.held))) (root ∙ (λ i. rooted (up_is i) None p.root)) free spares in
      let now = at_parent p' z.above (q.at ∷ z.spares) done in
      record {
        sound = now.sound;
        placed = (λ i. is_place_in (located p') (up_is i)) ∙ now.placed;
        position = (λ i. position_at p' (up_is i)) ∙ now.position ∙ (λ i. without_leaf (sym v.position i));
      }

  -- where no tree is and no spare node, nothing is held
  pub nothing_held : (p : Parts MAX) → Sound p → tree_of p ≡ empty → p.spares ≡ 0 → p.nodes.held ≡ []
  nothing_held p s e none =
      let few : size (relabel label (located p)) ≡ 0 = λ i. size (e i) in
      nil_from_length p.nodes.held (omega (arith, s.2.total, s.2.spares, none, few, size_relabel label (located p), ap (λ (t : Tree Spot). size t) (located_is p s.0 s.1 s.2)))
