-- A node that leans: its child on one side is too high by one.
use Rattle.std.proofs.Common.{◌≡◌, ℕ, ◌+◌, ◌<◌, ◌≤◌, min, max, true, refl, sym, ap, ◌∙◌, arith}
use Rattle.ttree_node.specs.Tree.{Tree, empty, node, Label, size, height, is_node, left_of, right_of, stated, Zipper, whole, plug, with_tree}
use Rattle.ttree_node.specs.Seen.{child}
use Rattle.ttree_node.specs.declared.node.Side.{Side}
use Rattle.ttree_node.specs.declared.node.Side.TheVariants.{Root, Left, Right}
use Rattle.ttree.specs.Shape.{IsTTree}
use Rattle.ttree.specs.Mending.{is_internal}
use Rattle.ttree.specs.Rising.{Leans, IsMendableHere, IsMendedTo, IsNearTree, restated, with_child}
use Rattle.ttree.proofs.Fitness.{high_node, node_high, low_no_node, from_numbers, stated-height}
use Rattle.ttree.proofs.Places.{size-plug}

module _ {I : Type 0} (least most : ℕ) where
  internal_same : (t u : Tree (Label I)) → height (left_of u) ≡ height (left_of t) → height (right_of u) ≡ height (right_of t) → is_internal u → is_internal t
  internal_same t u l r (i, j) = let a = node_high (left_of u) i in let b = node_high (right_of u) j in (high_node (left_of t) (omega (arith, a, l)), high_node (right_of t) (omega (arith, b, r)))

  -- it leans as much when the higher child is another T-tree of the same shape
  pub leans-with_child : (side : Side) (t u : Tree (Label I)) → Leans side least most t → IsTTree least most u → height (left_of u) ≡ height (left_of (child side t)) → height (right_of u) ≡ height (right_of (child side t))
      → height u ≡ height (child side t) → Leans side least most (with_child side u t)
  leans-with_child Root t u k f l r s = absurd (omega (arith, k.high))
  leans-with_child Left empty u k f l r s = absurd (omega (arith, k.high))
  leans-with_child Left (node a x b) u k f l r s = record { high_fit = f; low_fit = k.low_fit; high = omega (arith, k.high, s); some = k.some; fits = k.fits; internal = k.internal; only = λ e i. k.only e (internal_same a u l r i) }
  leans-with_child Right empty u k f l r s = absurd (omega (arith, k.high))
  leans-with_child Right (node a x b) u k f l r s = record { high_fit = f; low_fit = k.low_fit; high = omega (arith, k.high, s); some = k.some; fits = k.fits; internal = k.internal; only = λ e i. k.only e (internal_same b u l r i) }

  pub leaning_node : (side : Side) (t : Tree (Label I)) → Leans side least most t → is_node (child side t) ≡ true
  leaning_node side t k = high_node (child side t) (omega (arith, k.high))

  pub height-with_child : (side : Side) (t u : Tree (Label I)) → height u ≡ height (child side t) → height (with_child side u t) ≡ height t
  height-with_child side empty u s = refl
  height-with_child Root (node l x r) u s = refl
  height-with_child Left (node l x r) u s = omega (arith, s)
  height-with_child Right (node l x r) u s = omega (arith, s)

  size-with_child : (side : Side) (t u : Tree (Label I)) → size u ≡ size (child side t) → size (with_child side u t) ≡ size t
  size-with_child side empty u s = refl
  size-with_child Root (node l x r) u s = refl
  size-with_child Left (node l x r) u s = omega (arith, s)
  size-with_child Right (node l x r) u s = omega (arith, s)

  not_near : (side : Side) (t : Tree (Label I)) → Leans side least most t → IsNearTree t → ⊥
  not_near Root t k near = omega (arith, k.high)
  not_near Left t k near = omega (arith, k.high, near.0)
  not_near Right t k near = omega (arith, k.high, near.1)

  -- what mends it then mends it as it was
  pub mends-with_child : (side : Side) (t u v : Tree (Label I)) → Leans side least most t → height u ≡ height (child side t) → size u ≡ size (child side t) → IsMendedTo least most (with_child side u t) v → IsMendedTo least most t v
  mends-with_child side t u v k s n m =
      let e = height-with_child side t u s in
      record { fit = m.fit; not_higher = omega (arith, m.not_higher, e); not_lower = omega (arith, m.not_lower, e); kept = λ near. absurd (not_near side t k near); nodes = omega (arith, m.nodes, size-with_child side t u n) }

  pub leans-left : (t : Tree (Label I)) → IsMendableHere least most t → 1 + height (right_of t) < height (left_of t) → Leans Left least most t
  leans-left empty k h = absurd k
  leans-left (node l x r) k h =
      let l_node = high_node l (omega (arith, h)) in
      record { high_fit = k.left_fit; low_fit = k.right_fit; high = omega (arith, h, k.left_high); some = k.items.0; fits = k.items.1; internal = λ e. k.internal l_node e; only = k.left_only }

  pub leans-right : (t : Tree (Label I)) → IsMendableHere least most t → 1 + height (left_of t) < height (right_of t) → Leans Right least most t
  leans-right empty k h = absurd k
  leans-right (node l x r) k h =
      let r_node = high_node r (omega (arith, h)) in
      record { high_fit = k.right_fit; low_fit = k.left_fit; high = omega (arith, h, k.right_high); some = k.items.0; fits = k.items.1; internal = λ e. k.internal e r_node; only = k.right_only }

  -- a balanced node wants no more than its height
  pub mends-near : (t : Tree (Label I)) → IsMendableHere least most t → height (left_of t) ≤ 1 + height (right_of t) → height (right_of t) ≤ 1 + height (left_of t) → height t < 4294967295 → IsMendedTo least most t (restated t)
  mends-near empty k a b low = absurd k
  mends-near (node l x r) k a b low =
      let sl = stated-height least most l k.left_fit in let sr = stated-height least most r k.right_fit in
      let e : min (1 + max (stated l) (stated r)) 4294967295 ≡ 1 + max (height l) (height r) = omega (arith, sl, sr, low) in
      record {
        fit = (
          k.left_fit,
          from_numbers least most l (record { items = x.items; height = min (1 + max (stated l) (stated r)) 4294967295 }) r (record {
            left_near = a;
            right_near = b;
            true_height = e;
            some = k.items.0;
            room = k.items.1;
            internal = λ p q. k.internal (high_node l p) (high_node r q);
            left_half = λ p q. k.left_half (omega (arith, a, p, q)) (low_no_node r q);
            right_half = λ p q. k.right_half (low_no_node l p) (omega (arith, b, p, q));
          }),
          k.right_fit,
        );
        not_higher = omega arith;
        not_lower = omega arith;
        kept = λ near. (λ i. node l (record { items = x.items; height = e i }) r);
        nodes = refl;
      }

  -- the children's stated heights are true
  pub mendable_stated : (t : Tree (Label I)) → IsMendableHere least most t → (stated (left_of t) ≡ height (left_of t)) × (stated (right_of t) ≡ height (right_of t))
  mendable_stated empty k = absurd k
  mendable_stated (node l x r) k = (stated-height least most l k.left_fit, stated-height least most r k.right_fit)

  -- and so are those below a T-tree's root
  pub children_stated : (side : Side) (t : Tree (Label I)) → IsTTree least most t → stated (child side t) ≡ height (child side t)
  children_stated Root t f = refl
  children_stated Left empty f = refl
  children_stated Left (node l x r) f = stated-height least most l f.0
  children_stated Right empty f = refl
  children_stated Right (node l x r) f = stated-height least most r f.2

  -- a place that was mended is in a tree of as many nodes
  pub size-mended : (z w : Zipper (Label I)) → w.above ≡ z.above → IsMendedTo least most z.here w.here → {t u : Tree (Label I)} → t ≡ whole z → u ≡ whole w → size u ≡ size t
  size-mended z w above m e f = ap (λ v. size v) f ∙ (λ i. size (plug (above i) w.here)) ∙ size-plug z.above w.here z.here m.nodes ∙ sym (ap (λ v. size v) e)

module _ {I : Type 0} where
  size_restated_here : (t : Tree (Label I)) → size (restated t) ≡ size t
  size_restated_here empty = refl
  size_restated_here (node l x r) = refl

  pub size_restated : (z w : Zipper (Label I)) → w ≡ with_tree restated z → {t u : Tree (Label I)} → t ≡ whole z → u ≡ whole w → size u ≡ size t
  size_restated z w e f g = ap (λ v. size v) g ∙ (λ i. size (whole (e i))) ∙ size-plug z.above (restated z.here) z.here (size_restated_here z.here) ∙ sym (ap (λ v. size v) f)
