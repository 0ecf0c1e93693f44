-- A rotation keeps each node that has a child full.
use Rattle.std.proofs.Common.{◌≡◌, ℕ, ◌+◌, ◌<◌, ◌≤◌, length, true, false, refl, sym, ap, subst, ◌∙◌, arith, inl, inr}
use Rattle.std.proofs.lemmas.Bool.{cases_lt}
use Rattle.ttree_node.specs.Tree.{Tree, empty, node, Label, height, is_node, left_of, right_of, items_of, stated}
use Rattle.ttree_node.specs.Seen.{child, opposite}
use Rattle.ttree_node.specs.declared.node.Side.{Side}
use Rattle.ttree_node.specs.declared.node.Side.TheVariants.{Root, Left, Right}
use Rattle.ttree.specs.Shape.{IsFullParent, ParentsAreFull}
use Rattle.ttree.specs.Rising.{Leans, IsFilled, IsInnerFilled, with_child, outer_turned, inner_turned}
use Rattle.ttree.specs.Fullness.{HasLeafOfOne, IsGrown, IsGrowing}
use Rattle.ttree.proofs.EachNode.{each_child}
use Rattle.ttree.proofs.Fitness.{high_node, node_high, low_no_node}
use Rattle.ttree.proofs.Leaning.{leaning_node, children_stated}
use Rattle.ttree.proofs.Rotating.{same_on}
use Rattle.ttree.proofs.Fullness.{full_parent, low_full, full_here, full_above}

module _ {I : Type 0} where
  -- ---- a node with another child

  own_child : (side : Side) (t : Tree (Label I)) → with_child side (child side t) t ≡ t
  own_child Root empty = refl
  own_child Root (node l x r) = refl
  own_child Left empty = refl
  own_child Left (node l x r) = refl
  own_child Right empty = refl
  own_child Right (node l x r) = refl

  other_child : (side : Side) (u t : Tree (Label I)) → child (opposite side) (with_child side u t) ≡ child (opposite side) t
  other_child Root u t = refl
  other_child Left u empty = refl
  other_child Left u (node l x r) = refl
  other_child Right u empty = refl
  other_child Right u (node l x r) = refl

  items-with_child : (side : Side) (u t : Tree (Label I)) → items_of (with_child side u t) ≡ items_of t
  items-with_child side u empty = refl
  items-with_child Root u (node l x r) = refl
  items-with_child Left u (node l x r) = refl
  items-with_child Right u (node l x r) = refl

  -- it is as it was where the child is
  child_kept : (side : Side) (t u : Tree (Label I)) → u ≡ with_child side (child side u) t → child side u ≡ child side t → u ≡ t
  child_kept side t u rest same = rest ∙ (λ i. with_child side (same i) t) ∙ own_child side t

module _ {I : Type 0} (most : ℕ) where
  -- ---- one turn

  outer_grown : (side : Side) (t : Tree (Label I)) → ParentsAreFull most t → 1 < height (child side t) → height (child (opposite side) (child side t)) ≤ height (child side (child side t)) → IsGrown most (outer_turned side t)
  outer_grown Root t f high order = absurd (omega (arith, high))
  outer_grown Left empty f high order = absurd (omega (arith, high))
  outer_grown Left (node empty x r) f high order = absurd (omega (arith, high))
  outer_grown Left (node (node p y q) x r) f high order =
      let p_node = high_node p (omega (arith, high, order)) in
      record {
        parents = (f.0.0, full_parent most p _ _ (f.0.1.left p_node), (f.0.2, full_parent most q _ r (f.1.left refl), f.2));
        tall = omega arith;
        half = record { left = λ a b. cc; right = λ a b. absurd (let e : true ≡ false = sym p_node ∙ a in cc) };
      }
  outer_grown Right empty f high order = absurd (omega (arith, high))
  outer_grown Right (node r x empty) f high order = absurd (omega (arith, high))
  outer_grown Right (node r x (node q y p)) f high order =
      let p_node = high_node p (omega (arith, high, order)) in
      record {
        parents = ((f.0, full_parent most r _ q (f.1.right refl), f.2.0), full_parent most _ _ p (f.2.1.right p_node), f.2.2);
        tall = omega arith;
        half = record { left = λ a b. absurd (let e : true ≡ false = sym p_node ∙ b in cc); right = λ a b. cc };
      }

  -- ---- two turns

  -- The node and the inner grandchild are full, and so is the child if the turns leave it a child.
  inner_grown : (side : Side) (t : Tree (Label I)) → is_node (child (opposite side) (child side t)) ≡ true
      → ParentsAreFull most (child (opposite side) t) → ParentsAreFull most (child side (child side t)) → ParentsAreFull most (child (opposite side) (child side t))
      → most ≤ length (items_of t) → most ≤ length (items_of (child (opposite side) (child side t)))
      → (1 < height (child side (child side t)) + height (child (opposite side) (child side t)) → most ≤ length (items_of (child side t))) → IsGrown most (inner_turned side t)
  inner_grown Root t e rf pf cf top inner below = cc
  inner_grown Left empty e rf pf cf top inner below = cc
  inner_grown Left (node empty x r) e rf pf cf top inner below = cc
  inner_grown Left (node (node p y empty) x r) e rf pf cf top inner below = cc
  inner_grown Left (node (node p y (node u z v)) x r) e rf pf cf top inner below = record {
    parents = (
      (pf, record { left = λ a. below (omega (arith, node_high p a)); right = λ a. below (omega (arith, node_high u a)) }, cf.0),
      full_parent most _ _ _ inner,
      (cf.2, full_parent most v _ r top, rf),
    );
    tall = omega arith;
    half = record { left = λ a b. cc; right = λ a b. cc };
  }
  inner_grown Right empty e rf pf cf top inner below = cc
  inner_grown Right (node r x empty) e rf pf cf top inner below = cc
  inner_grown Right (node r x (node empty y p)) e rf pf cf top inner below = cc
  inner_grown Right (node r x (node (node v z u) y p)) e rf pf cf top inner below = record {
    parents = (
      (rf, full_parent most r _ v top, cf.0),
      full_parent most _ _ _ inner,
      (cf.2, record { left = λ a. below (omega (arith, node_high u a)); right = λ a. below (omega (arith, node_high p a)) }, pf),
    );
    tall = omega arith;
    half = record { left = λ a b. cc; right = λ a b. cc };
  }

  inner_of_one : (side : Side) (t : Tree (Label I)) → HasLeafOfOne t → height (child (opposite side) t) ≡ 1 → height (child side t) ≡ 0 → length (items_of (child (opposite side) t)) ≡ 1
  inner_of_one Root t k e n = absurd (omega (arith, e))
  inner_of_one Left t k e n = k.right (low_no_node (left_of t) n) e
  inner_of_one Right t k e n = k.left e (low_no_node (right_of t) n)

  module _ (least : ℕ) (ordered : least ≤ most) where
    -- ---- with what is filled first

    -- the child has a child, so it is full, and nothing is filled
    pub outer-rotated_full : (side : Side) (t u : Tree (Label I)) → Leans side least most t → u ≡ with_child side (child side u) t → IsFilled least most (child side t) (child side u)
        → stated (child (opposite side) (child side t)) ≤ stated (child side (child side t)) → IsGrowing most t → IsGrown most (outer_turned side u)
    outer-rotated_full side t u k rest f order g =
        let b : Tree (Label I) = child side t in
        let so = children_stated least most side b k.high_fit in let si = children_stated least most (opposite side) b k.high_fit in
        let full = full_here most b (each_child (IsFullParent most) side t g.grown.parents) (omega (arith, k.high)) in
        let same : u ≡ t = child_kept side t u rest (f.kept (omega (arith, full, ordered))) in
        subst (λ v. IsGrown most (outer_turned side v)) (sym same) (outer_grown side t g.grown.parents (omega (arith, k.high)) (omega (arith, so, si, order)))

    -- The inner grandchild has a child, and nothing is filled; or it is a leaf of one item, and is filled from the child, a full half-leaf.
    pub inner-rotated_full : (side : Side) (t u : Tree (Label I)) → 2 ≤ least → Leans side least most t → u ≡ with_child side (child side u) t → IsInnerFilled (opposite side) least most (child side t) (child side u)
        → height (child side (child side t)) < height (child (opposite side) (child side t)) → IsGrowing most t → IsGrown most (inner_turned side u)
    inner-rotated_full side t u two k rest f order g =
        let b : Tree (Label I) = child side t in let b' : Tree (Label I) = child side u in
        let c : Tree (Label I) = child (opposite side) b in let c' : Tree (Label I) = child (opposite side) b' in
        let bf : ParentsAreFull most b = each_child (IsFullParent most) side t g.grown.parents in
        let cf : ParentsAreFull most c = each_child (IsFullParent most) (opposite side) b bf in
        let top : most ≤ length (items_of t) = full_above most side t g.grown.parents (leaning_node least most side t k) in
        let full : most ≤ length (items_of b) = full_here most b bf (omega (arith, k.high)) in
        let rf : ParentsAreFull most (child (opposite side) t) = each_child (IsFullParent most) (opposite side) t g.grown.parents in
        elim (cases_lt 1 (height c)) [
          | inl high ↦
              let inner : most ≤ length (items_of c) = full_here most c cf high in
              let same : u ≡ t = child_kept side t u rest (f.kept (omega (arith, inner, ordered))) in
              subst (λ v. IsGrown most (inner_turned side v)) (sym same) (inner_grown side t (high_node c (omega (arith, high))) rf (each_child (IsFullParent most) side b bf) cf top inner (λ h. full))
          | inr low ↦
              let leaf : height c ≡ 1 = omega (arith, low, order) in
              let one : length (items_of c) ≡ 1 = inner_of_one side b (g.leaning side (omega (arith, k.high))) leaf (omega (arith, leaf, order)) in
              let outer_low : height (child side b') ≡ 0 = same_on side b b' f.left f.right ∙ omega (arith, leaf, order) in
              let inner_low : height c' ≡ 1 = same_on (opposite side) b b' f.left f.right ∙ leaf in
              let r_full : ParentsAreFull most (child (opposite side) u) = subst (λ v. ParentsAreFull most (child (opposite side) v)) (sym rest) (subst (λ v. ParentsAreFull most v) (sym (other_child side b' t)) rf) in
              let u_full : most ≤ length (items_of u) = omega (arith, top, ap (λ v. length (items_of v)) rest, ap length (items-with_child side b' t)) in
              inner_grown side u (high_node c' (omega (arith, inner_low))) r_full (low_full most (child side b') (omega (arith, outer_low))) (low_full most c' (omega (arith, inner_low))) u_full
              (f.leaf_filled leaf (omega (arith, one, two)) (omega (arith, one, full))) (λ h. absurd (omega (arith, h, outer_low, inner_low)))
        ]
