-- What it means that nodes stand for a tree: the tree is read back, cut at any node and put together again.
use Rattle.std.proofs.Math.Nat.{eq-zero-or-pos}
use Rattle.std.proofs.Common.{◌≡◌, ℕ, zero, suc, ◌+◌, ◌<◌, ◌≤◌, true, false, cond, List, [], ◌∷◌, length, refl, sym, ◌∙◌, arith, inl, inr}
use Rattle.std.specs.Prelude.{Option, None}
use Rattle.std.proofs.lemmas.Bool.{ltb-true}
use denote.RawPtr.{Ptr}
use Rattle.part_raw.specs.declared.tuple_ref.TupleRef.{TupleRef}
use Rattle.ttree_node.specs.Held.{same_place, node_at}
use Rattle.ttree_node.specs.Tree.{Tree, empty, node, Frame, went_left, went_right, Label, at, size, plug, relabel}
use Rattle.ttree_node.specs.Linked.{Spot, spot, there, root_of, parent_of, side_of, one_if, occurs, occurs_above, occurs_in, Stands, Around, Chained, grown, read, climbed, read_above, seen_from, zipper_at, IsPlaceIn}
use Rattle.ttree_node.specs.declared.nodes.NodePlace.{NodePlace}
use Rattle.ttree_node.specs.declared.node.Node.{Node}
use Rattle.ttree_node.specs.declared.node.Side.{Side}
use Rattle.ttree_node.specs.declared.node.Side.TheVariants.{Root, Left, Right}
use Rattle.ttree_node.proofs.Cuts.{same_place_refl, same_place_eq}

-- ---- places
pub one_same : (q : Ptr) → one_if q q ≡ 1
one_same q = λ i. cond (same_place_refl q i) 1 0

pub differs : (q p : Ptr) → one_if q p ≡ 0 → same_place q p ≡ false
differs q p = elim (same_place q p) as (λ s. let k : ℕ = cond s 1 0 in k ≡ 0 → s ≡ false) [ true ↦ λ h. absurd (omega (arith, h)) | false ↦ λ h. refl ]

-- the sizes of the trees beside the steps, with the nodes on the way
abbrev pub size_above : List (Frame Spot) → ℕ
size_above [] = 0
size_above (went_left x r ∷ c) = 1 + size r + size_above c
size_above (went_right l x ∷ c) = 1 + size l + size_above c

pub size_plug : (c : List (Frame Spot)) (t : Tree Spot) → size (plug c t) ≡ size_above c + size t
size_plug [] t = omega arith
size_plug (went_left x r ∷ c) t = omega (arith, size_plug c (node t x r))
size_plug (went_right l x ∷ c) t = omega (arith, size_plug c (node l x t))

pub occurs_plug : (q : Ptr) (c : List (Frame Spot)) (t : Tree Spot) → occurs q (plug c t) ≡ occurs_above q c + occurs q t
occurs_plug q [] t = omega arith
occurs_plug q (went_left x r ∷ c) t = omega (arith, occurs_plug q c (node t x r))
occurs_plug q (went_right l x ∷ c) t = omega (arith, occurs_plug q c (node l x t))

pub size_relabel : {X Y : Type 0} (f : X → Y) (t : Tree X) → size (relabel f t) ≡ size t
size_relabel f empty = refl
size_relabel f (node l x r) = omega (arith, size_relabel f l, size_relabel f r)

-- a tree cut at one of its nodes
pub record CutTree (p : Ptr) (t : Tree Spot) : Type 0 where
  pub above : List (Frame Spot)
  pub below_left : Tree Spot
  pub label : Label TupleRef
  pub below_right : Tree Spot
  pub is : t ≡ plug above (node below_left (spot p label) below_right)

cut_from : (p : Ptr) (t : Tree Spot) (c : List (Frame Spot)) → 0 < occurs p t → CutTree p (plug c t)
cut_from p empty c h = absurd (omega (arith, h))
cut_from p (node l x r) c h = (elim (same_place p x.place) as (λ s. same_place p x.place ≡ s → CutTree p (plug c (node l x r))) [
  | true ↦ λ is. record { above = c; below_left = l; label = x.label; below_right = r; is = λ i. plug c (node l (spot (sym (same_place_eq p x.place is) i) x.label) r) }
  | false ↦ λ is. let none : one_if p x.place ≡ 0 = λ i. cond (is i) 1 0 in (elim (eq-zero-or-pos (occurs p l)) as (λ _. CutTree p (plug c (node l x r))) [
    | inl e ↦ cut_from p r (went_right l x ∷ c) (omega (arith, h, none, e))
    | inr e ↦ cut_from p l (went_left x r ∷ c) e
  ])
]) refl

pub cut_tree : (p : Ptr) (t : Tree Spot) → IsPlaceIn t (there p) → CutTree p t
cut_tree p t h = cut_from p t [] (ltb-true 0 (occurs p t) h)

module _ {MAX : ℕ} where
  module _ (m : List (Ptr × Node MAX)) where
    -- ---- a tree and what is above it
    pub unplug : (c : List (Frame Spot)) (t : Tree Spot) → Stands m None Root (plug c t) → Around m (root_of t) c × Stands m (parent_of c) (side_of c) t
    unplug [] t s = (tt, s)
    unplug (went_left x r ∷ c) t s = let z = unplug c (node t x r) s in ((z.1.0, z.1.2, z.0), z.1.1)
    unplug (went_right l x ∷ c) t s = let z = unplug c (node l x t) s in ((z.1.0, z.1.1, z.0), z.1.2)

    pub plugged : (c : List (Frame Spot)) (t : Tree Spot) → Around m (root_of t) c → Stands m (parent_of c) (side_of c) t → Stands m None Root (plug c t)
    plugged [] t a s = s
    plugged (went_left x r ∷ c) t a s = plugged c (node t x r) a.2 (a.0, s, a.1)
    plugged (went_right l x ∷ c) t a s = plugged c (node l x t) a.2 (a.0, a.1, s)

    -- ---- the tree is read back
    pub read_stands : (k : ℕ) (par : Option NodePlace) (s : Side) (t : Tree Spot) → Stands m par s t → size t ≤ k → read k m (root_of t) ≡ t
    unfolding read
    read_stands zero par s empty h le = refl
    read_stands (suc k) par s empty h le = refl
    read_stands zero par s (node l x r) h le = absurd (omega (arith, le))
    read_stands (suc k) par s (node l x r) h le =
        (λ i. grown (read k m) x.place (h.0 i)) ∙ (λ i. node (read_stands k (there x.place) Left l h.1 (omega (arith, le)) i) x (read_stands k (there x.place) Right r h.2 (omega (arith, le)) i))

    pub read_around : (k : ℕ) (u : Option NodePlace) (c : List (Frame Spot)) → Around m u c → size_above c ≤ k → size_above c ≤ length m → read_above k m (side_of c) (parent_of c) ≡ c
    unfolding read_above
    read_around zero u [] h le wide = refl
    read_around (suc k) u [] h le wide = refl
    read_around zero u (went_left x r ∷ c) h le wide = absurd (omega (arith, le))
    read_around zero u (went_right l x ∷ c) h le wide = absurd (omega (arith, le))
    read_around (suc k) u (went_left x r ∷ c) h le wide =
        (λ i. climbed (read (length m) m) (read_above k m) Left x.place (h.0 i))
        ∙ (λ i. went_left x (read_stands (length m) (there x.place) Right r h.1 (omega (arith, wide)) i) ∷ read_around k (there x.place) c h.2 (omega (arith, le)) (omega (arith, wide)) i)
    read_around (suc k) u (went_right l x ∷ c) h le wide =
        (λ i. climbed (read (length m) m) (read_above k m) Right x.place (h.0 i))
        ∙ (λ i. went_right (read_stands (length m) (there x.place) Left l h.1 (omega (arith, wide)) i) x ∷ read_around k (there x.place) c h.2 (omega (arith, le)) (omega (arith, wide)) i)

    pub zipper_is : (c : List (Frame Spot)) (l : Tree Spot) (x : Spot) (r : Tree Spot) → Around m (there x.place) c → Stands m (parent_of c) (side_of c) (node l x r) → size (plug c (node l x r)) ≤ length m
        → zipper_at m (there x.place) ≡ at c (node l x r)
    zipper_is c l x r a s le =
        (λ i. seen_from m x.place (s.0 i))
        ∙ (λ i. at (read_around (length m) (there x.place) c a (omega (arith, le, size_plug c (node l x r))) (omega (arith, le, size_plug c (node l x r))) i) (read_stands (length m) (parent_of c) (side_of c) (node l x r) s (omega (arith, le, size_plug c (node l x r))) i))

    -- ---- a set that agrees at the places of a tree
    module _ (m' : List (Ptr × Node MAX)) where
      abbrev pub Agrees : (Ptr → ℕ) → Type 0
      Agrees count = (q : Ptr) → 0 < count q → node_at q m' ≡ node_at q m

      pub still_stands : (par : Option NodePlace) (s : Side) (t : Tree Spot) → Agrees (λ q. occurs q t) → Stands m par s t → Stands m' par s t
      still_stands par s empty g h = tt
      still_stands par s (node l x r) g h = (
        g x.place (omega (arith, one_same x.place)) ∙ h.0,
        still_stands (there x.place) Left l (λ q k. g q (omega (arith, k))) h.1,
        still_stands (there x.place) Right r (λ q k. g q (omega (arith, k))) h.2,
      )

      pub still_around : (u : Option NodePlace) (c : List (Frame Spot)) → Agrees (λ q. occurs_above q c) → Around m u c → Around m' u c
      still_around u [] g h = tt
      still_around u (went_left x r ∷ c) g h =
          (g x.place (omega (arith, one_same x.place)) ∙ h.0, still_stands (there x.place) Right r (λ q k. g q (omega (arith, k))) h.1, still_around (there x.place) c (λ q k. g q (omega (arith, k))) h.2)
      still_around u (went_right l x ∷ c) g h =
          (g x.place (omega (arith, one_same x.place)) ∙ h.0, still_stands (there x.place) Left l (λ q k. g q (omega (arith, k))) h.1, still_around (there x.place) c (λ q k. g q (omega (arith, k))) h.2)

      pub still_chained : (ps : List Ptr) → Agrees (λ q. occurs_in q ps) → Chained m ps → Chained m' ps
      still_chained [] g h = tt
      still_chained (p ∷ ps) g h = (g p (omega (arith, one_same p)) ∙ h.0, still_chained ps (λ q k. g q (omega (arith, k))) h.1)
