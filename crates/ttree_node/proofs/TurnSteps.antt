-- A child that rises, in the words of the contracts.
use Rattle.std.proofs.Common.{◌≡◌, ℕ, true, List, refl, sym, ◌∙◌, subst}
use Rattle.std.specs.Prelude.{Option, Some, IsSome}
use denote.RawPtr.{Ptr}
use Rattle.part_raw.specs.declared.tuple_ref.TupleRef.{TupleRef}
use Rattle.ttree_node.specs.Held.{node_at}
use Rattle.ttree_node.specs.Link.{child_link}
use Rattle.ttree_node.specs.Tree.{Tree, empty, node, Frame, Label, at, plug, relabel, relabel_zipper, is_node, with_tree}
use Rattle.ttree_node.specs.Linked.{Spot, spot, there, root_of, parent_of, side_of, Present, Stands, Around, hung, rooted, Linked, located, is_place_in, IsPlaceIn, Sound}
use Rattle.ttree_node.specs.Seen.{position_at, child, opposite, hangs_on_node, raised}
use Rattle.ttree_node.specs.declared.nodes.NodePlace.{NodePlace}
use Rattle.ttree_node.specs.declared.node.Node.{Node}
use Rattle.ttree_node.specs.declared.node.Side.{Side}
use Rattle.ttree_node.specs.declared.node.Side.TheVariants.{Root, Left, Right}
use Rattle.ttree_node.specs.declared.parts.Parts.{Parts}
use Rattle.ttree_node.proofs.Forks.{fork, fork_for, as_fork, for_fork, raised_fork, root_fork, fork_is_node, stands_fork, near_link, far_link, place_link, side_link}
use Rattle.ttree_node.proofs.Refit.{top_present}
use Rattle.ttree_node.proofs.Rehang.{stands_present}
use Rattle.ttree_node.proofs.Relabels.{Now}
use Rattle.ttree_node.proofs.Shape.{unplug}
use Rattle.ttree_node.proofs.Spares.{located_is, some_place, some_node}
use Rattle.ttree_node.proofs.Standing.{label, is_node_relabel, placed_root, position_of}
use Rattle.ttree_node.proofs.Turns.{turned}
use Rattle.ttree_node.proofs.Visit.{Visit, visit}

-- what has a child on a side, hangs it there
sided : {X : Type 0} (s : Side) (t : Tree X) → is_node (child s t) ≡ true → hangs_on_node s ≡ true
sided Root t h = h
sided Left t h = refl
sided Right t h = refl

child_relabel : {X Y : Type 0} (f : X → Y) (s : Side) (t : Tree X) → child s (relabel f t) ≡ relabel f (child s t)
child_relabel f Root t = refl
child_relabel f Left empty = refl
child_relabel f Left (node l x r) = refl
child_relabel f Right empty = refl
child_relabel f Right (node l x r) = refl

module _ {MAX : ℕ} where
  -- a node with a child on that side
  pub record Turning (s : Side) (p : Parts MAX) (place : Option NodePlace) (n : Node MAX) : Type 0 where
    pub on : hangs_on_node s ≡ true
    pub above : List (Frame Spot)
    pub far : Tree Spot
    pub a : Ptr
    pub x : Label TupleRef
    pub mid : Tree Spot
    pub b : Ptr
    pub y : Label TupleRef
    pub outer : Tree Spot
    pub spares : List Ptr
    pub linked : Linked p (plug above (fork s (spot a x) (fork s (spot b y) outer mid) far)) spares
    pub place_is : place ≡ there a
    pub node_is : n ≡ fork_for s x (parent_of above) (side_of above) (there b) (root_of far)
    pub position : position_at p place ≡ relabel_zipper label (at above (fork s (spot a x) (fork s (spot b y) outer mid) far))

  to_turning : (s : Side) → hangs_on_node s ≡ true → (p : Parts MAX) (place : Option NodePlace) (n : Node MAX) (v : Visit p place n) (t : Tree Spot)
      → child s (node v.standing.l (spot v.at v.standing.x) v.standing.r) ≡ t → is_node t ≡ true → Turning s p place n
  to_turning s on p place n v empty e h = cc
  to_turning s on p place n v (node l w r) e h =
      let z = v.standing in let here : Tree Spot = node z.l (spot v.at z.x) z.r in let far : Tree Spot = child (opposite s) here in
      let mid : Tree Spot = child (opposite s) (node l w r) in let outer : Tree Spot = child s (node l w r) in
      let near : child s here ≡ fork s w outer mid = e ∙ as_fork s on l w r in
      let is : here ≡ fork s (spot v.at z.x) (fork s w outer mid) far = as_fork s on z.l (spot v.at z.x) z.r ∙ (λ i. fork s (spot v.at z.x) (near i) far) in
      record {
        on = on;
        above = z.above;
        far = far;
        a = v.at;
        x = z.x;
        mid = mid;
        b = w.place;
        y = w.label;
        outer = outer;
        spares = z.spares;
        linked = subst (λ t. Linked p (plug z.above t) z.spares) is z.linked;
        place_is = v.place_is;
        node_is = v.node_is ∙ for_fork s on v.at z.x (parent_of z.above) (side_of z.above) z.l z.r
            ∙ (λ i. fork_for s z.x (parent_of z.above) (side_of z.above) (((λ k. root_of (near k)) ∙ root_fork s w outer mid) i) (root_of far));
        position = v.position ∙ (λ i. relabel_zipper label (at z.above (is i)));
      }

  pub turning : {i p : Parts MAX} (s : Side) (view : i ≡ p) → Sound i → (place : Option NodePlace) {found : NodePlace} → place ≡ Some found → IsPlaceIn (located p) place → {n : Node MAX} → node_at found.at i.nodes.held ≡ Some n
      → is_node (child s (position_at p place).here) ≡ true → Turning s i place n
  turning {i} s view sound place {found} is placed {n} got high =
      let v = visit i i refl sound place found is ((λ k. is_place_in (located (view k)) place) ∙ placed) n got in
      let here : Tree Spot = node v.standing.l (spot v.at v.standing.x) v.standing.r in
      let node_there : is_node (relabel label (child s here)) ≡ true = (λ k. is_node (sym (child_relabel label s here) k)) ∙ (λ k. is_node (child s (sym v.position k).here)) ∙ (λ k. is_node (child s (position_at (view k) place).here)) ∙ high in
      to_turning s (sided s _ high) i place n v (child s here) refl (sym (is_node_relabel label (child s here)) ∙ node_there)

  module _ (s : Side) (p : Parts MAX) (place : Option NodePlace) (n : Node MAX) (k : Turning s p place n) where
    abbrev below : Tree Spot
    below = fork s (spot k.b k.y) k.outer k.mid

    abbrev here : Tree Spot
    here = fork s (spot k.a k.x) below k.far

    pub riser_is : child_link s n.head ≡ there k.b
    riser_is = (λ i. child_link s (k.node_is i).head) ∙ near_link MAX k.x (parent_of k.above) (side_of k.above) (there k.b) (root_of k.far) s k.on

    parent_is : n.head.parent ≡ parent_of k.above
    parent_is = (λ i. (k.node_is i).head.parent) ∙ place_link MAX k.x (parent_of k.above) (side_of k.above) (there k.b) (root_of k.far) s

    side_is : n.head.side ≡ side_of k.above
    side_is = (λ i. (k.node_is i).head.side) ∙ side_link MAX k.x (parent_of k.above) (side_of k.above) (there k.b) (root_of k.far) s

    stands : Around p.nodes.held (root_of here) k.above × Stands p.nodes.held (parent_of k.above) (side_of k.above) here
    stands = unplug p.nodes.held k.above here k.linked.stands

    upper : (node_at k.a p.nodes.held ≡ Some (fork_for s k.x (parent_of k.above) (side_of k.above) (root_of below) (root_of k.far))) × Stands p.nodes.held (there k.a) s below × Stands p.nodes.held (there k.a) (opposite s) k.far
    upper = stands_fork p.nodes.held s k.on (parent_of k.above) (side_of k.above) (spot k.a k.x) below k.far stands.1

    lower : (node_at k.b p.nodes.held ≡ Some (fork_for s k.y (there k.a) s (root_of k.outer) (root_of k.mid))) × Stands p.nodes.held (there k.b) s k.outer × Stands p.nodes.held (there k.b) (opposite s) k.mid
    lower = stands_fork p.nodes.held s k.on (there k.a) s (spot k.b k.y) k.outer k.mid upper.1

    pub parent_present : Present p.nodes.held n.head.parent
    parent_present = subst (λ o. Present p.nodes.held o) (sym parent_is) (top_present p.nodes.held (root_of here) k.above stands.0)

    pub place_present : Present p.nodes.held place
    place_present = subst (λ o. Present p.nodes.held o) (sym k.place_is) (subst (λ o. IsSome o) (sym upper.0) refl)

    pub riser_present : Present p.nodes.held (child_link s n.head)
    riser_present = subst (λ o. Present p.nodes.held o) (sym riser_is) (subst (λ o. IsSome o) (sym lower.0) refl)

    module _ (riser : NodePlace) (m : Node MAX) (is : child_link s n.head ≡ Some riser) (got : node_at riser.at p.nodes.held ≡ Some m) where
      mid_is : child_link (opposite s) m.head ≡ root_of k.mid
      mid_is =
          let found : m ≡ fork_for s k.y (there k.a) s (root_of k.outer) (root_of k.mid) = some_node (sym got ∙ (λ i. node_at (some_place (sym is ∙ riser_is) i) p.nodes.held) ∙ lower.0) in
          (λ i. child_link (opposite s) (found i).head) ∙ far_link MAX k.y (there k.a) s (root_of k.outer) (root_of k.mid) s k.on

      pub mid_present : Present p.nodes.held (child_link (opposite s) m.head)
      mid_present = subst (λ o. Present p.nodes.held o) (sym mid_is) (stands_present p.nodes.held (there k.b) (opposite s) k.mid lower.2)

      pub risen : (p' : Parts MAX)
          → p'.nodes.held ≡ hung (child_link s n.head) n.head.parent n.head.side (hung place (child_link s n.head) (opposite s) (hung (child_link (opposite s) m.head) place s p.nodes.held))
          → p'.root ≡ rooted n.head.parent (child_link s n.head) (rooted (child_link s n.head) place (rooted place (child_link (opposite s) m.head) p.root)) → p'.free ≡ p.free → p'.spares ≡ p.spares
          → Now p' (child_link s n.head) (with_tree (raised s) (position_at p place))
      risen p' held root free spares =
          let t : Tree Spot = fork s (spot k.b k.y) k.outer (fork s (spot k.a k.x) k.mid k.far) in
          let done : Linked p' (plug k.above t) k.spares = turned s k.on p p' k.above k.far k.a k.x k.mid k.b k.y k.outer k.spares k.linked
          (held ∙ (λ i. hung (riser_is i) (parent_is i) (side_is i) (hung (k.place_is i) (riser_is i) (opposite s) (hung (mid_is i) (k.place_is i) s p.nodes.held))))
          (root ∙ (λ i. rooted (parent_is i) (riser_is i) (rooted (riser_is i) (k.place_is i) (rooted (k.place_is i) (mid_is i) p.root)))) free spares in
          let to : child_link s n.head ≡ root_of t = riser_is ∙ sym (root_fork s (spot k.b k.y) k.outer (fork s (spot k.a k.x) k.mid k.far)) in
          let node_there : is_node t ≡ true = fork_is_node s (spot k.b k.y) k.outer (fork s (spot k.a k.x) k.mid k.far) in
          record {
            sound = (plug k.above t, k.spares, done);
            placed = (λ i. is_place_in (located_is p' (plug k.above t) k.spares done i) (to i)) ∙ placed_root k.above t node_there;
            position = (λ i. position_at p' (to i)) ∙ position_of p' k.above t k.spares done node_there
                ∙ (λ i. at (relabel_zipper label (at k.above here)).above (raised_fork label s k.on (spot k.a k.x) (spot k.b k.y) k.outer k.mid k.far i)) ∙ (λ i. with_tree (raised s) (sym k.position i));
          }
