-- What the tree is after an edit of a few nodes.
use Rattle.std.proofs.Common.{◌≡◌, ℕ, ◌+◌, ◌<◌, List, [], ◌∷◌, length, refl, sym, ap, ◌∙◌, subst, arith}
use Rattle.std.specs.Prelude.{None}
use denote.RawPtr.{Ptr}
use Rattle.part_raw.specs.declared.tuple_ref.TupleRef.{TupleRef}
use Rattle.ttree_node.specs.Held.{node_at, set_node}
use Rattle.ttree_node.specs.Tree.{Tree, node, Frame, went_left, went_right, Label, plug}
use Rattle.ttree_node.specs.Linked.{Spot, spot, there, root_of, parent_of, side_of, occurs, occurs_above, occurs_in, node_for, Stands, Chained, Linked, node_limit}
use Rattle.ttree_node.specs.declared.node.Node.{Node}
use Rattle.ttree_node.specs.declared.node.Side.TheVariants.{Root}
use Rattle.ttree_node.specs.declared.parts.Parts.{Parts}
use Rattle.ttree_node.proofs.Maps.{set_same, set_other, set_length}
use Rattle.ttree_node.proofs.Shape.{differs, size_plug, occurs_plug, unplug, plugged, still_stands, still_around, still_chained}

-- a root keeps its place where the node at it changes
pub root_below : (c : List (Frame Spot)) (t u : Tree Spot) → root_of t ≡ root_of u → root_of (plug c t) ≡ root_of (plug c u)
root_below [] t u e = e
root_below (went_left x r ∷ c) t u e = root_below c (node t x r) (node u x r) refl
root_below (went_right l x ∷ c) t u e = root_below c (node l x t) (node l x u) refl

same_root : (c : List (Frame Spot)) (q : Ptr) (x y : Label TupleRef) (l r : Tree Spot) → root_of (plug c (node l (spot q x) r)) ≡ root_of (plug c (node l (spot q y) r))
same_root c q x y l r = root_below c (node l (spot q x) r) (node l (spot q y) r) refl

module _ {MAX : ℕ} where
  -- one node has another label
  pub relabelled : (p p' : Parts MAX) (c : List (Frame Spot)) (l : Tree Spot) (q : Ptr) (x y : Label TupleRef) (r : Tree Spot) (ps : List Ptr) → Linked p (plug c (node l (spot q x) r)) ps
      → p'.nodes.held ≡ set_node q (node_for y (parent_of c) (side_of c) (root_of l) (root_of r)) p.nodes.held → p'.root ≡ p.root → p'.free ≡ p.free → p'.spares ≡ p.spares
      → Linked p' (plug c (node l (spot q y) r)) ps
  relabelled p p' c l q x y r ps k held root free spares =
      let m = p.nodes.held in let w : Node MAX = node_for y (parent_of c) (side_of c) (root_of l) (root_of r) in let n = set_node q w m in
      let t : Tree Spot = node l (spot q x) r in let u : Tree Spot = node l (spot q y) r in
      let z = unplug m c t k.stands in
      let far : (o : Ptr) → 0 < occurs_above o c + occurs o l + occurs o r + occurs_in o ps → node_at o n ≡ node_at o m = λ o some. set_other q o w m (differs o q (omega (arith, some, k.alone o, occurs_plug o c t))) in
      let stands : Stands n None Root (plug c u) = plugged n c u (still_around m n (there q) c (λ o some. far o (omega (arith, some))) z.0)
      (set_same q w _ m z.1.0, still_stands m n _ _ l (λ o some. far o (omega (arith, some))) z.1.1, still_stands m n _ _ r (λ o some. far o (omega (arith, some))) z.1.2) in
      record {
        stands = subst (λ h. Stands h None Root (plug c u)) (sym held) stands;
        root = root ∙ k.root ∙ same_root c q x y l r;
        chained = subst (λ h. Chained h ps) (sym held) (still_chained m n ps (λ o some. far o (omega (arith, some))) k.chained);
        free = free ∙ k.free;
        spares = spares ∙ k.spares;
        alone = λ o. omega (arith, k.alone o, occurs_plug o c t, occurs_plug o c u);
        total = omega (arith, k.total, size_plug c t, size_plug c u, set_length q w m) ∙ sym (ap length held);
        small = subst (λ h. length h < node_limit) (sym held) (omega (arith, k.small, set_length q w m));
        narrow = λ some. k.narrow (omega (arith, some, ap length held, set_length q w m));
      }
