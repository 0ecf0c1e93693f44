-- The spare nodes: one more, and one fewer.
use Rattle.std.proofs.Common.{◌≡◌, ℕ, ◌+◌, ◌<◌, ◌≤◌, true, false, cond, List, [], ◌∷◌, length, refl, sym, ap, ◌∙◌, subst, arith}
use Rattle.std.specs.Prelude.{Option, Some, None, IsSome}
use denote.RawPtr.{Ptr}
use Rattle.ttree_node.specs.Held.{same_place, node_at, without}
use Rattle.ttree_node.specs.Tree.{Tree, empty, node}
use Rattle.ttree_node.specs.Linked.{Spot, there, head_of, one_if, occurs, occurs_in, node_for, Stands, Chained, read, located, Linked, node_limit}
use Rattle.ttree_node.specs.declared.nodes.NodePlace.{NodePlace}
use Rattle.ttree_node.specs.declared.node.Node.{Node}
use Rattle.ttree_node.specs.declared.node.Side.{Side}
use Rattle.ttree_node.specs.declared.node.Side.TheVariants.{Root, Left, Right}
use Rattle.ttree_node.specs.declared.parts.Parts.{Parts}
use Rattle.ttree_node.proofs.Cuts.{same_place_eq}
use Rattle.ttree_node.proofs.Maps.{without_other, without_length}
use Rattle.ttree_node.proofs.Shape.{differs, read_stands, still_stands, still_chained}
use Rattle.ttree_node.specs.declared.parts.TheConstants.{MOST_ITEMS}

pub some_place : {x : NodePlace} {q : Ptr} → Some x ≡ there q → x.at ≡ q
some_place {x} {q} e = let same : x ≡ record { at = q } = cc in ap (λ (y : NodePlace). y.at) same

module _ {MAX : ℕ} where
  pub some_node : {x y : Node MAX} → Some x ≡ Some y → x ≡ y
  some_node e = cc

  -- a spare node, which links the next
  abbrev pub blank : Option NodePlace → Node MAX
  blank next = node_for (record { items = []; height = 0 }) None Root next None

  pub located_is : (p : Parts MAX) (t : Tree Spot) (ps : List Ptr) → Linked p t ps → located p ≡ t
  located_is p t ps k =
      (λ i. read (length p.nodes.held) p.nodes.held (k.root i)) ∙ read_stands p.nodes.held (length p.nodes.held) None Root t k.stands (omega (arith, k.total))

  module _ (m : List (Ptr × Node MAX)) (q : Ptr) (none : node_at q m ≡ None) where
    here : (p : Ptr) (n : Node MAX) → node_at p m ≡ Some n → one_if q p ≡ 0
    here p n e = (elim (same_place q p) as (λ s. same_place q p ≡ s → (let k : ℕ = cond s 1 0 in k ≡ 0)) [
      | true ↦ λ is. let both : None ≡ Some n = sym none ∙ (λ i. node_at (same_place_eq q p is i) m) ∙ e in cc
      | false ↦ λ is. refl
    ]) refl

    pub not_standing : (par : Option NodePlace) (s : Side) (t : Tree Spot) → Stands m par s t → occurs q t ≡ 0
    not_standing par s empty h = refl
    not_standing par s (node l x r) h = omega (arith, here x.place _ h.0, not_standing (there x.place) Left l h.1, not_standing (there x.place) Right r h.2)

    pub not_chained : (ps : List Ptr) → Chained m ps → occurs_in q ps ≡ 0
    not_chained [] h = refl
    not_chained (p ∷ ps) h = omega (arith, here p _ h.0, not_chained ps h.1)

  pub added : (p p' : Parts MAX) (t : Tree Spot) (ps : List Ptr) (q : Ptr) → Linked p t ps → node_at q p.nodes.held ≡ None → length p.nodes.held + 1 < node_limit → MAX ≤ MOST_ITEMS
      → p'.nodes.held ≡ (q, blank p.free) ∷ p.nodes.held → p'.root ≡ p.root → p'.free ≡ there q → p'.spares ≡ p.spares + 1 → Linked p' t (q ∷ ps)
  added p p' t ps q k none small narrow held root free spares =
      let m = p.nodes.held in let n : List (Ptr × Node MAX) = (q, blank p.free) ∷ m in
      let gone : occurs q t ≡ 0 = not_standing m q none None Root t k.stands in let gone' : occurs_in q ps ≡ 0 = not_chained m q none ps k.chained in
      let elsewhere : (r : Ptr) → 0 < occurs r t + occurs_in r ps → same_place r q ≡ false = λ r some. (elim (same_place r q) as (λ s. same_place r q ≡ s → s ≡ false) [
        | true ↦ λ is. absurd (omega (arith, subst (λ u. 0 < occurs u t + occurs_in u ps) (same_place_eq r q is) some, gone, gone'))
        | false ↦ λ is. refl
      ]) refl in
      let same : (r : Ptr) → 0 < occurs r t + occurs_in r ps → node_at r n ≡ node_at r m = λ r some. λ i. cond (elsewhere r some i) (Some (blank p.free)) (node_at r m) in
      let first : node_at q n ≡ Some (blank (head_of ps)) = (λ i. cond (Rattle.ttree_node.proofs.Cuts.same_place_refl q i) (Some (blank p.free)) (node_at q m)) ∙ (λ i. Some (blank (k.free i))) in
      record {
        stands = subst (λ h. Stands h None Root t) (sym held) (still_stands m n None Root t (λ r some. same r (omega (arith, some))) k.stands);
        root = root ∙ k.root;
        chained = subst (λ h. Chained h (q ∷ ps)) (sym held) (first, still_chained m n ps (λ r some. same r (omega (arith, some))) k.chained);
        free = free;
        spares = spares ∙ omega (arith, k.spares);
        alone = λ r. (elim (same_place r q) as (λ s. same_place r q ≡ s → occurs r t + (cond s 1 0 + occurs_in r ps) ≤ 1) [
          | true ↦ λ is. omega (arith, subst (λ u. occurs u t ≡ 0) (sym (same_place_eq r q is)) gone, subst (λ u. occurs_in u ps ≡ 0) (sym (same_place_eq r q is)) gone')
          | false ↦ λ is. omega (arith, k.alone r)
        ]) refl;
        total = omega (arith, k.total) ∙ sym (ap length held);
        small = subst (λ h. length h < node_limit) (sym held) (omega (arith, small));
        narrow = λ _. narrow;
      }

  pub shed : (p p' : Parts MAX) (t : Tree Spot) (q : Ptr) (ps : List Ptr) → Linked p t (q ∷ ps)
      → p'.nodes.held ≡ without q p.nodes.held → p'.root ≡ p.root → p'.free ≡ head_of ps → p'.spares + 1 ≡ p.spares → Linked p' t ps
  shed p p' t q ps k held root free spares =
      let m = p.nodes.held in let n : List (Ptr × Node MAX) = without q m in
      let same : (r : Ptr) → 0 < occurs r t + occurs_in r ps → node_at r n ≡ node_at r m = λ r some. without_other q r m (differs r q (omega (arith, some, k.alone r))) in
      let fewer : length n + 1 ≡ length m = without_length q m (subst (λ o. IsSome o) (sym k.chained.0) refl) in
      record {
        stands = subst (λ h. Stands h None Root t) (sym held) (still_stands m n None Root t (λ r some. same r (omega (arith, some))) k.stands);
        root = root ∙ k.root;
        chained = subst (λ h. Chained h ps) (sym held) (still_chained m n ps (λ r some. same r (omega (arith, some))) k.chained.1);
        free = free;
        spares = omega (arith, spares, k.spares);
        alone = λ r. omega (arith, k.alone r);
        total = omega (arith, k.total, fewer) ∙ sym (ap length held);
        small = subst (λ h. length h < node_limit) (sym held) (omega (arith, k.small, fewer));
        narrow = λ _. k.narrow (omega (arith, fewer));
      }

  -- some spare node is there where one is counted
  pub record First (p : Parts MAX) (t : Tree Spot) : Type 0 where
    pub place : Ptr
    pub rest : List Ptr
    pub linked : Linked p t (place ∷ rest)
    pub found : p.free ≡ there place
    pub node : node_at place p.nodes.held ≡ Some (blank (head_of rest))

  pub first_spare : (p : Parts MAX) (t : Tree Spot) (ps : List Ptr) → Linked p t ps → 0 < p.spares → First p t
  first_spare p t [] k h = absurd (omega (arith, h, k.spares))
  first_spare p t (q ∷ ps) k h = record { place = q; rest = ps; linked = k; found = k.free; node = k.chained.0 }
