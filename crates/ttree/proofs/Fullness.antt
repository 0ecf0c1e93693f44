-- Nodes that have a child stay full, while a leaf is made and balance comes back.
use Rattle.std.proofs.Common.{◌≡◌, ℕ, ◌+◌, ◌<◌, ◌≤◌, length, true, false, refl, sym, ap, subst, ◌∙◌, List, [], ◌∷◌, arith, inl, inr}
use Rattle.std.proofs.lemmas.Bool.{cases_lt}
use Rattle.ttree_node.specs.Tree.{Tree, empty, node, Frame, went_left, went_right, Label, Zipper, at, plug, whole, height, is_node, is_root, items_of, new_items, new_height, with_items, with_leaf, up}
use Rattle.ttree_node.specs.Seen.{child, opposite, on_side, hangs_on_node}
use Rattle.ttree_node.specs.declared.node.Side.{Side}
use Rattle.ttree_node.specs.declared.node.Side.TheVariants.{Root, Left, Right}
use Rattle.ttree.specs.Shape.{IsTTree, IsFit, IsFullParent, ParentsAreFull}
use Rattle.ttree.specs.Rising.{IsMendedTo, IsNearTree, restated}
use Rattle.ttree.specs.Fullness.{HasLeafOfOne, IsGrown, CanRiseFull, HasRisenFull}
use Rattle.ttree.proofs.Fitness.{high_node}
use Rattle.ttree.proofs.EachNode.{each_here}
use Rattle.ttree.proofs.Growing.{leaf}

module _ {I : Type 0} (most : ℕ) where
  -- ---- one tree

  pub full_parent : (l : Tree (Label I)) (x : Label I) (r : Tree (Label I)) → most ≤ length x.items → IsFullParent most l x r
  full_parent l x r h = record { left = λ a. h; right = λ a. h }

  -- a leaf has no child
  pub low_full : (t : Tree (Label I)) → height t ≤ 1 → ParentsAreFull most t
  low_full empty h = tt
  low_full (node empty x empty) h = (tt, record { left = λ a. cc; right = λ a. cc }, tt)
  low_full (node (node a y b) x r) h = absurd (omega (arith, h))
  low_full (node empty x (node a y b)) h = absurd (omega (arith, h))

  -- a node that has a child
  pub full_here : (t : Tree (Label I)) → ParentsAreFull most t → 1 < height t → most ≤ length (items_of t)
  full_here empty f h = absurd (omega (arith, h))
  full_here (node empty x empty) f h = absurd (omega (arith, h))
  full_here (node (node a y b) x r) f h = f.1.left refl
  full_here (node empty x (node a y b)) f h = f.1.right refl

  pub full_above : (side : Side) (t : Tree (Label I)) → ParentsAreFull most t → is_node (child side t) ≡ true → most ≤ length (items_of t)
  full_above Root t f e = cc
  full_above Left empty f e = cc
  full_above Left (node l x r) f e = f.1.left e
  full_above Right empty f e = cc
  full_above Right (node l x r) f e = f.1.right e

  -- ---- other trees and items in a place

  pub full-replaced : (c : List (Frame (Label I))) (t u : Tree (Label I)) → ParentsAreFull most (plug c t) → ParentsAreFull most u → (is_node u ≡ true → is_node t ≡ true) → ParentsAreFull most (plug c u)
  full-replaced [] t u f uf e = uf
  full-replaced (went_left x r ∷ c) t u f uf e =
      let h = each_here (IsFullParent most) c (node t x r) f in
      full-replaced c (node t x r) (node u x r) f (uf, record { left = λ a. h.1.left (e a); right = h.1.right }, h.2) (λ a. refl)
  full-replaced (went_right l x ∷ c) t u f uf e =
      let h = each_here (IsFullParent most) c (node l x t) f in
      full-replaced c (node l x t) (node l x u) f (h.0, record { left = h.1.left; right = λ a. h.1.right (e a) }, uf) (λ a. refl)

  new_items_full : (c : List (Frame (Label I))) (t : Tree (Label I)) (xs : List I) → length (items_of t) ≤ length xs → ParentsAreFull most (plug c t) → ParentsAreFull most (plug c (new_items xs t))
  new_items_full c empty xs more f = f
  new_items_full c (node l x r) xs more f =
      let h = each_here (IsFullParent most) c (node l x r) f in
      full-replaced c (node l x r) (new_items xs (node l x r)) f (h.0, record { left = λ a. omega (arith, h.1.left a, more); right = λ a. omega (arith, h.1.right a, more) }, h.2) (λ a. refl)

  -- a node with no fewer items
  pub full-with_items : (z : Zipper (Label I)) (xs : List I) → length (items_of z.here) ≤ length xs → ParentsAreFull most (whole z) → ParentsAreFull most (whole (with_items xs z))
  full-with_items z xs more f = new_items_full z.above z.here xs more f

  first_full : (c : List (Frame (Label I))) (r : I) → is_root c ≡ true → ParentsAreFull most (whole (with_leaf r (at c empty)))
  first_full [] r h = low_full (leaf r) (omega arith)
  first_full (f ∷ c) r h = cc

  -- the first leaf of all
  pub full_first : (z : Zipper (Label I)) (r : I) → is_root z.above ≡ true → ParentsAreFull most (whole (with_leaf r z))
  full_first z r h = first_full z.above r h

  -- ---- balance

  -- heights that are stated anew
  pub restated-grown : (t : Tree (Label I)) → IsGrown most t → IsGrown most (restated t)
  restated-grown empty k = k
  restated-grown (node l x r) k = record {
    parents = (k.parents.0, record { left = k.parents.1.left; right = k.parents.1.right }, k.parents.2);
    tall = k.tall;
    half = record { left = k.half.left; right = k.half.right };
  }

  -- a balanced node leans to no side
  near_even : (side : Side) (t : Tree (Label I)) → IsNearTree t → 2 + height (child (opposite side) t) ≤ height (child side t) → ⊥
  near_even Root t near h = omega (arith, h)
  near_even Left t near h = omega (arith, near.0, h)
  near_even Right t near h = omega (arith, near.1, h)

  leans_left_alone : (t : Tree (Label I)) (x : Label I) (r : Tree (Label I)) → HasLeafOfOne t → height r ≤ 1 + height t → (side : Side) → 2 + height (child (opposite side) (node t x r)) ≤ height (child side (node t x r))
      → HasLeafOfOne (child side (node t x r))
  leans_left_alone t x r k low Root h = absurd (omega (arith, h))
  leans_left_alone t x r k low Left h = k
  leans_left_alone t x r k low Right h = absurd (omega (arith, h, low))

  leans_right_alone : (t : Tree (Label I)) (x : Label I) (l : Tree (Label I)) → HasLeafOfOne t → height l ≤ 1 + height t → (side : Side) → 2 + height (child (opposite side) (node l x t)) ≤ height (child side (node l x t))
      → HasLeafOfOne (child side (node l x t))
  leans_right_alone t x l k low Root h = absurd (omega (arith, h))
  leans_right_alone t x l k low Left h = absurd (omega (arith, h, low))
  leans_right_alone t x l k low Right h = k

  module _ (least : ℕ) where
    -- ---- from the parent of a new leaf

    left_leaf : (r : I) (c : List (Frame (Label I))) (x : Label I) (s : Tree (Label I)) → most ≤ length x.items → IsTTree least most (plug c (node empty x s)) → ParentsAreFull most (plug c (node empty x s))
        → CanRiseFull least most (at c (node (leaf r) x s))
    left_leaf r c x s enough fit f =
        let low : height s ≤ 1 = omega (arith, (each_here (IsFit least most) c (node empty x s) fit).1.near.1) in
        let near : IsNearTree (node (leaf r) x s) = (omega arith, omega arith) in
        let h : ParentsAreFull most (node (leaf r) x s) = (low_full (leaf r) (omega arith), full_parent (leaf r) x s enough, (each_here (IsFullParent most) c (node empty x s) f).2) in
        record {
          was = node empty x s;
          was_fit = fit;
          parents = full-replaced c (node empty x s) (node (leaf r) x s) f h (λ a. refl);
          here = record {
            grown = record { parents = h; tall = omega arith; half = record { left = λ a b. refl; right = λ a b. cc } };
            leaning = λ side lean. absurd (near_even side (node (leaf r) x s) near lean);
          };
          not_lower = omega arith;
          higher = inl near;
        }

    right_leaf : (r : I) (c : List (Frame (Label I))) (x : Label I) (s : Tree (Label I)) → most ≤ length x.items → IsTTree least most (plug c (node s x empty)) → ParentsAreFull most (plug c (node s x empty))
        → CanRiseFull least most (at c (node s x (leaf r)))
    right_leaf r c x s enough fit f =
        let low : height s ≤ 1 = omega (arith, (each_here (IsFit least most) c (node s x empty) fit).1.near.0) in
        let near : IsNearTree (node s x (leaf r)) = (omega arith, omega arith) in
        let h : ParentsAreFull most (node s x (leaf r)) = ((each_here (IsFullParent most) c (node s x empty) f).0, full_parent s x (leaf r) enough, low_full (leaf r) (omega arith)) in
        record {
          was = node s x empty;
          was_fit = fit;
          parents = full-replaced c (node s x empty) (node s x (leaf r)) f h (λ a. refl);
          here = record {
            grown = record { parents = h; tall = omega arith; half = record { left = λ a b. cc; right = λ a b. refl } };
            leaning = λ side lean. absurd (near_even side (node s x (leaf r)) near lean);
          };
          not_lower = omega arith;
          higher = inl near;
        }

    full_rises_at : (side : Side) (c : List (Frame (Label I))) (t : Tree (Label I)) (r : I) → hangs_on_node side ≡ true → is_node t ≡ true → is_node (child side t) ≡ false → most ≤ length (items_of t)
        → IsTTree least most (plug c t) → ParentsAreFull most (plug c t) → CanRiseFull least most (up (with_leaf r (on_side side (at c t))))
    full_rises_at Root c t r s h o e fit f = cc
    full_rises_at Left c empty r s h o e fit f = cc
    full_rises_at Left c (node empty x u) r s h o e fit f = left_leaf r c x u e fit f
    full_rises_at Left c (node (node a y b) x u) r s h o e fit f = cc
    full_rises_at Right c empty r s h o e fit f = cc
    full_rises_at Right c (node u x empty) r s h o e fit f = right_leaf r c x u e fit f
    full_rises_at Right c (node u x (node a y b)) r s h o e fit f = cc

    -- a new leaf below a full node
    pub grown_rises_full : (side : Side) (z : Zipper (Label I)) (r : I) → hangs_on_node side ≡ true → is_node z.here ≡ true → is_node (child side z.here) ≡ false → most ≤ length (items_of z.here)
        → IsTTree least most (whole z) → ParentsAreFull most (whole z) → CanRiseFull least most (up (with_leaf r (on_side side z)))
    grown_rises_full side z r s h o e fit f = full_rises_at side z.above z.here r s h o e fit f

    -- ---- from a place where balance has come back to the one above it

    risen_left : (c : List (Frame (Label I))) (was t : Tree (Label I)) (x : Label I) (r : Tree (Label I)) → IsTTree least most (plug c (node was x r)) → ParentsAreFull most (plug c (node t x r)) → IsGrown most t → height was ≤ height t
        → CanRiseFull least most (at c (node t x r))
    risen_left c was t x r fit f k more =
        let near = (each_here (IsFit least most) c (node was x r) fit).1.near in
        let low : height r ≤ 1 + height t = omega (arith, near.1, more) in
        record {
          was = node was x r;
          was_fit = fit;
          parents = f;
          here = record {
            grown = record { parents = each_here (IsFullParent most) c (node t x r) f; tall = omega (arith, k.tall); half = record { left = λ a b. absurd (omega (arith, k.tall, a)); right = λ a b. absurd (let e : true ≡ false = sym (high_node t (omega (arith, k.tall))) ∙ a in cc) } };
            leaning = leans_left_alone t x r k.half low;
          };
          not_lower = omega (arith, more);
          higher = elim (cases_lt (1 + height r) (height t)) [ inl h ↦ inr (omega (arith, near.0, h)) | inr h ↦ inl (h, low) ];
        }

    risen_right : (c : List (Frame (Label I))) (was t : Tree (Label I)) (x : Label I) (l : Tree (Label I)) → IsTTree least most (plug c (node l x was)) → ParentsAreFull most (plug c (node l x t)) → IsGrown most t → height was ≤ height t
        → CanRiseFull least most (at c (node l x t))
    risen_right c was t x l fit f k more =
        let near = (each_here (IsFit least most) c (node l x was) fit).1.near in
        let low : height l ≤ 1 + height t = omega (arith, near.0, more) in
        record {
          was = node l x was;
          was_fit = fit;
          parents = f;
          here = record {
            grown = record { parents = each_here (IsFullParent most) c (node l x t) f; tall = omega (arith, k.tall); half = record { left = λ a b. absurd (let e : true ≡ false = sym (high_node t (omega (arith, k.tall))) ∙ b in cc); right = λ a b. absurd (omega (arith, k.tall, b)) } };
            leaning = leans_right_alone t x l k.half low;
          };
          not_lower = omega (arith, more);
          higher = elim (cases_lt (1 + height l) (height t)) [ inl h ↦ inr (omega (arith, near.1, h)) | inr h ↦ inl (low, h) ];
        }

    risen_at : (c : List (Frame (Label I))) (t : Tree (Label I)) → is_root c ≡ false → (was : Tree (Label I)) → IsTTree least most (plug c was) → ParentsAreFull most (plug c t) → IsGrown most t → height was ≤ height t → CanRiseFull least most (up (at c t))
    risen_at [] t e was fit f k more = cc
    risen_at (went_left x r ∷ c) t e was fit f k more = risen_left c was t x r fit f k more
    risen_at (went_right l x ∷ c) t e was fit f k more = risen_right c was t x l fit f k more

    pub can-rise_full : (z : Zipper (Label I)) → is_root z.above ≡ false → HasRisenFull least most z → CanRiseFull least most (up z)
    can-rise_full z e k = risen_at z.above z.here e k.was k.was_fit k.parents k.here k.not_lower

    -- ---- and to that one

    height_restated : (h : ℕ) (t : Tree (Label I)) → height (new_height h t) ≡ height t
    height_restated h empty = refl
    height_restated h (node l x r) = refl

    has_risen_at : (z : Zipper (Label I)) (u : Tree (Label I)) → CanRiseFull least most z → IsMendedTo least most z.here u → IsGrown most u → HasRisenFull least most (at z.above u)
    has_risen_at z u k m g = record {
      was = k.was;
      was_fit = k.was_fit;
      parents = full-replaced z.above z.here u k.parents g.parents (λ a. high_node z.here (omega (arith, k.here.grown.tall)));
      here = g;
      not_lower = elim k.higher [ inl near ↦ omega (arith, k.not_lower, ap height (m.kept near), height_restated (height z.here) z.here) | inr h ↦ omega (arith, h, m.not_lower) ];
    }

    -- the place z, where w is then
    pub has-risen_full : (z w : Zipper (Label I)) → w.above ≡ z.above → CanRiseFull least most z → IsMendedTo least most z.here w.here → IsGrown most w.here → HasRisenFull least most w
    has-risen_full z w above k m g = subst (λ c. HasRisenFull least most (at c w.here)) (sym above) (has_risen_at z w.here k m g)
