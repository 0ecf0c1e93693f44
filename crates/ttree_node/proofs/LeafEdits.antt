-- A leaf comes and goes.
use Rattle.std.proofs.Common.{◌≡◌, ℕ, ◌+◌, ◌<◌, ◌≤◌, List, ◌∷◌, length, sym, ap, ◌∙◌, subst, arith}
use Rattle.std.specs.Prelude.{Some, None}
use denote.RawPtr.{Ptr}
use Rattle.part_raw.specs.declared.tuple_ref.TupleRef.{TupleRef}
use Rattle.ttree_node.specs.Held.{node_at, set_node}
use Rattle.ttree_node.specs.Tree.{Tree, empty, node, Frame, Label, plug}
use Rattle.ttree_node.specs.Linked.{Spot, spot, there, parent_of, side_of, head_of, one_if, occurs_above, occurs_in, node_for, Stands, Around, Chained, linked_down, rooted, Linked, node_limit}
use Rattle.ttree_node.specs.declared.node.Node.{Node}
use Rattle.ttree_node.specs.declared.node.Side.TheVariants.{Root}
use Rattle.ttree_node.specs.declared.parts.Parts.{Parts}
use Rattle.ttree_node.proofs.Maps.{set_same, set_other, set_length}
use Rattle.ttree_node.proofs.Shape.{one_same, differs, size_plug, occurs_plug, unplug, plugged, still_around, still_chained}
use Rattle.ttree_node.proofs.Refit.{refit, refit_other, refit_length, refit_root}
use Rattle.ttree_node.proofs.Spares.{blank}

abbrev pub leaf : Ptr → Label TupleRef → Tree Spot
leaf q x = node empty (spot q x) empty

module _ {MAX : ℕ} where
  -- the first spare node becomes a leaf below c
  pub leafed : (p p' : Parts MAX) (c : List (Frame Spot)) (q : Ptr) (x : Label TupleRef) (ps : List Ptr) → Linked p (plug c empty) (q ∷ ps)
      → p'.nodes.held ≡ linked_down (parent_of c) (side_of c) (there q) (set_node q (node_for x (parent_of c) (side_of c) None None) p.nodes.held)
      → p'.root ≡ rooted (parent_of c) (there q) p.root → p'.free ≡ head_of ps → p'.spares + 1 ≡ p.spares → Linked p' (plug c (leaf q x)) ps
  leafed p p' c q x ps k held root free spares =
      let m = p.nodes.held in let w : Node MAX = node_for x (parent_of c) (side_of c) None None in let m1 = set_node q w m in let n = linked_down (parent_of c) (side_of c) (there q) m1 in
      let z = unplug m c empty k.stands in
      let apart : (o : Ptr) → occurs_above o c + one_if o q + occurs_in o ps ≤ 1 = λ o. omega (arith, k.alone o, occurs_plug o c empty) in
      let above : Around m1 None c = still_around m m1 None c (λ o some. set_other q o w m (differs o q (omega (arith, some, apart o)))) z.0 in
      let here : node_at q n ≡ Some w = refit_other m1 (there q) c q (omega (arith, apart q, one_same q)) ∙ set_same q w _ m k.chained.0 in
      let stands : Stands n None Root (plug c (leaf q x)) = plugged n c (leaf q x) (refit m1 None (there q) c (λ o. omega (arith, apart o)) above) (here, tt, tt) in
      let rest : Chained n ps = still_chained m n ps (λ o some. refit_other m1 (there q) c o (omega (arith, some, apart o)) ∙ set_other q o w m (differs o q (omega (arith, some, apart o)))) k.chained.1 in
      let same : length n ≡ length m = refit_length m1 (there q) c ∙ set_length q w m in
      record {
        stands = subst (λ h. Stands h None Root (plug c (leaf q x))) (sym held) stands;
        root = root ∙ refit_root c empty (leaf q x) p.root k.root;
        chained = subst (λ h. Chained h ps) (sym held) rest;
        free = free;
        spares = omega (arith, spares, k.spares);
        alone = λ o. omega (arith, apart o, occurs_plug o c (leaf q x));
        total = omega (arith, k.total, size_plug c empty, size_plug c (leaf q x), same) ∙ sym (ap length held);
        small = subst (λ h. length h < node_limit) (sym held) (omega (arith, k.small, same));
        narrow = λ some. k.narrow (omega (arith, some, ap length held, same));
      }

  -- a leaf below c becomes the first spare node
  pub dropped : (p p' : Parts MAX) (c : List (Frame Spot)) (q : Ptr) (x : Label TupleRef) (ps : List Ptr) → Linked p (plug c (leaf q x)) ps
      → p'.nodes.held ≡ linked_down (parent_of c) (side_of c) None (set_node q (blank p.free) p.nodes.held)
      → p'.root ≡ rooted (parent_of c) None p.root → p'.free ≡ there q → p'.spares ≡ p.spares + 1 → Linked p' (plug c empty) (q ∷ ps)
  dropped p p' c q x ps k held root free spares =
      let m = p.nodes.held in let w : Node MAX = blank p.free in let m1 = set_node q w m in let n = linked_down (parent_of c) (side_of c) None m1 in
      let z = unplug m c (leaf q x) k.stands in
      let apart : (o : Ptr) → occurs_above o c + one_if o q + occurs_in o ps ≤ 1 = λ o. omega (arith, k.alone o, occurs_plug o c (leaf q x)) in
      let above : Around m1 (there q) c = still_around m m1 (there q) c (λ o some. set_other q o w m (differs o q (omega (arith, some, apart o)))) z.0 in
      let here : node_at q n ≡ Some (blank (head_of ps)) = refit_other m1 None c q (omega (arith, apart q, one_same q)) ∙ set_same q w _ m z.1.0 ∙ (λ i. Some (blank (k.free i))) in
      let stands : Stands n None Root (plug c empty) = plugged n c empty (refit m1 (there q) None c (λ o. omega (arith, apart o)) above) tt in
      let rest : Chained n ps = still_chained m n ps (λ o some. refit_other m1 None c o (omega (arith, some, apart o)) ∙ set_other q o w m (differs o q (omega (arith, some, apart o)))) k.chained in
      let same : length n ≡ length m = refit_length m1 None c ∙ set_length q w m in
      record {
        stands = subst (λ h. Stands h None Root (plug c empty)) (sym held) stands;
        root = root ∙ refit_root c (leaf q x) empty p.root k.root;
        chained = subst (λ h. Chained h (q ∷ ps)) (sym held) (here, rest);
        free = free;
        spares = omega (arith, spares, k.spares);
        alone = λ o. omega (arith, apart o, occurs_plug o c empty);
        total = omega (arith, k.total, size_plug c empty, size_plug c (leaf q x), same) ∙ sym (ap length held);
        small = subst (λ h. length h < node_limit) (sym held) (omega (arith, k.small, same));
        narrow = λ some. k.narrow (omega (arith, some, ap length held, same));
      }
