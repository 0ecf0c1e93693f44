-- Other trees in a place of a T-tree.
use Rattle.std.proofs.Common.{◌≡◌, ℕ, ◌+◌, ◌<◌, ◌≤◌, length, true, false, refl, sym, ◌∙◌, subst, List, [], ◌∷◌, ◌++◌, arith, length-append, inl}
use Rattle.ttree_node.specs.Tree.{Tree, empty, node, Frame, went_left, went_right, Label, Zipper, plug, whole, height, size, is_node, is_leaf, has_left, has_right, left_of, right_of, items_of, stated, new_items, with_tree}
use Rattle.ttree_node.specs.Seen.{child, opposite, merged}
use Rattle.ttree_node.specs.declared.node.Side.{Side}
use Rattle.ttree_node.specs.declared.node.Side.TheVariants.{Root, Left, Right}
use Rattle.ttree.specs.Shape.{IsFit, IsTTree}
use Rattle.ttree.specs.Mending.{CanRise, IsMendableTree}
use Rattle.ttree.specs.Removing.{HasLostBelow}
use Rattle.ttree.specs.Rising.{IsNearTree}
use Rattle.ttree.proofs.Refits.{height-new_items}
use Rattle.ttree.proofs.Fitness.{low_no_node, no_node_low, in_numbers, from_numbers}
use Rattle.ttree.proofs.EachNode.{each_here}
use Rattle.ttree.proofs.Swapped.{fit-swapped}

module _ {I : Type 0} (least most : ℕ) where
  in_left : (t u : Tree (Label I)) (x : Label I) (r : Tree (Label I)) → IsTTree least most (node t x r) → IsTTree least most u → height u ≡ height t → (height t ≡ 1 → length (items_of t) ≤ length (items_of u)) → IsTTree least most (node u x r)
  in_left t u x r (_, f, rf) uf e more =
      let g = in_numbers least most t x r f in (
        uf,
        from_numbers least most u x r (record {
          left_near = omega (arith, g, e);
          right_near = omega (arith, g, e);
          true_height = omega (arith, g, e);
          some = g.some;
          room = g.room;
          internal = λ a b. g.internal (omega (arith, a, e)) b;
          left_half = λ a b. omega (arith, g.left_half (omega (arith, a, e)) b, more (omega (arith, g, a, b, e)));
          right_half = λ a b. g.right_half (omega (arith, a, e)) b;
        }),
        rf,
      )

  in_right : (t u : Tree (Label I)) (x : Label I) (l : Tree (Label I)) → IsTTree least most (node l x t) → IsTTree least most u → height u ≡ height t → (height t ≡ 1 → length (items_of t) ≤ length (items_of u)) → IsTTree least most (node l x u)
  in_right t u x l f uf e more = fit-swapped least most u x l (in_left t u x l (fit-swapped least most l x t f) uf e more)

  -- a T-tree as high may stand there, and where it is a leaf it holds no less
  pub fit-replaced : (c : List (Frame (Label I))) (t u : Tree (Label I)) → IsTTree least most (plug c t) → IsTTree least most u → height u ≡ height t → (height t ≡ 1 → length (items_of t) ≤ length (items_of u)) → IsTTree least most (plug c u)
  fit-replaced [] t u f uf e more = uf
  fit-replaced (went_left x r ∷ c) t u f uf e more =
      fit-replaced c (node t x r) (node u x r) f (in_left t u x r (each_here (IsFit least most) c (node t x r) f) uf e more) (omega (arith, e)) (λ h. omega arith)
  fit-replaced (went_right l x ∷ c) t u f uf e more =
      fit-replaced c (node l x t) (node l x u) f (in_right t u x l (each_here (IsFit least most) c (node l x t) f) uf e more) (omega (arith, e)) (λ h. omega arith)

  -- a node with other items
  pub fit-new_items : (xs : List I) (t : Tree (Label I)) → IsTTree least most t → 0 < length xs → length xs ≤ most → (1 < height t → length (items_of t) ≤ length xs) → IsTTree least most (new_items xs t)
  fit-new_items xs empty f some room more = tt
  fit-new_items xs (node l x r) (lf, f, rf) some room more =
      let g = in_numbers least most l x r f in (
        lf,
        from_numbers least most l (record { items = xs; height = x.height }) r (record {
          left_near = g.left_near;
          right_near = g.right_near;
          true_height = g.true_height;
          some = some;
          room = room;
          internal = λ a b. omega (arith, g.internal a b, more (omega (arith, a)));
          left_half = λ a b. omega (arith, g.left_half a b, more (omega (arith, a)));
          right_half = λ a b. omega (arith, g.right_half a b, more (omega (arith, b)));
        }),
        rf,
      )

  -- a node with other items, in the whole tree
  pub whole-new_items : (c : List (Frame (Label I))) (t : Tree (Label I)) (xs : List I) → IsTTree least most (plug c t) → 0 < length xs → length xs ≤ most → length (items_of t) ≤ length xs → items_of (new_items xs t) ≡ xs → IsTTree least most (plug c (new_items xs t))
  whole-new_items c t xs f some room more is =
      fit-replaced c t (new_items xs t) f (fit-new_items xs t (each_here (IsFit least most) c t f) some room (λ h. more)) (height-new_items xs t) (λ h. subst (λ ys. length (items_of t) ≤ length ys) (sym is) more)

  -- ---- nothing is merged or freed

  below_full : (t : Tree (Label I)) → IsTTree least most (left_of t) → IsTTree least most (right_of t) → IsNearTree t → stated t ≡ height t → 1 < height t → 0 < length (items_of t) → length (items_of t) ≤ most
      → (has_left t ≡ true → has_right t ≡ true → least ≤ length (items_of t))
      → (has_left t ≡ true → has_right t ≡ false → least + 1 ≤ length (items_of t) + length (items_of (left_of t)))
      → (has_left t ≡ false → has_right t ≡ true → least + 1 ≤ length (items_of t) + length (items_of (right_of t))) → IsTTree least most t
  below_full empty lf rf near true_height tall some room internal left_half right_half = tt
  below_full (node l x r) lf rf near true_height tall some room internal left_half right_half =
      (lf, record { near = near; true_height = true_height; items = (some, room); occupied = record { internal = internal; left_half = left_half; right_half = right_half } }, rf)

  -- both children are there
  pub kept-internal : (z : Zipper (Label I)) → 1 ≤ least → HasLostBelow least most z → has_left z.here ≡ true → has_right z.here ≡ true → IsTTree least most (whole z)
  kept-internal z some k l r =
      let fit = below_full z.here k.left_fit k.right_fit k.near k.true_height (omega (arith, k.tall, k.same)) (omega (arith, some, k.internal l r)) k.room k.internal
      (λ a b. absurd (let e : true ≡ false = sym r ∙ b in cc)) (λ a b. absurd (let e : true ≡ false = sym l ∙ a in cc)) in
      fit-replaced z.above k.was z.here k.was_fit fit k.same (λ h. absurd (omega (arith, h, k.tall)))

  -- the half-leaf and its leaf hold too many for one
  one_child_fits : (side : Side) (t : Tree (Label I)) → IsTTree least most (left_of t) → IsTTree least most (right_of t) → is_node (child side t) ≡ true → length (items_of (child side t)) ≤ most
  one_child_fits Root t lf rf e = cc
  one_child_fits Left empty lf rf e = cc
  one_child_fits Left (node empty x r) lf rf e = cc
  one_child_fits Left (node (node a y b) x r) lf rf e = lf.1.items.1
  one_child_fits Right empty lf rf e = cc
  one_child_fits Right (node l x empty) lf rf e = cc
  one_child_fits Right (node l x (node a y b)) lf rf e = rf.1.items.1

  pub kept-half : (side : Side) (z : Zipper (Label I)) → least ≤ most → HasLostBelow least most z → is_node (child side z.here) ≡ true → is_node (child (opposite side) z.here) ≡ false
      → most < length (items_of z.here) + length (items_of (child side z.here)) → IsTTree least most (whole z)
  kept-half Root z ordered k e o many = cc
  kept-half Left z ordered k e o many =
      let below = one_child_fits Left z.here k.left_fit k.right_fit e in
      let fit = below_full z.here k.left_fit k.right_fit k.near k.true_height (omega (arith, k.tall, k.same)) (omega (arith, many, below)) k.room k.internal (λ a b. omega (arith, many, ordered)) (λ a b. absurd (let f : true ≡ false = sym e ∙ a in cc)) in
      fit-replaced z.above k.was z.here k.was_fit fit k.same (λ h. absurd (omega (arith, h, k.tall)))
  kept-half Right z ordered k e o many =
      let below = one_child_fits Right z.here k.left_fit k.right_fit e in
      let fit = below_full z.here k.left_fit k.right_fit k.near k.true_height (omega (arith, k.tall, k.same)) (omega (arith, many, below)) k.room k.internal (λ a b. absurd (let f : true ≡ false = sym e ∙ b in cc)) (λ a b. omega (arith, many, ordered)) in
      fit-replaced z.above k.was z.here k.was_fit fit k.same (λ h. absurd (omega (arith, h, k.tall)))

  -- ---- a half-leaf takes all items of its leaf

  -- a leaf, or where nothing is no tree
  pub leaf_below : (side : Side) (t : Tree (Label I)) → IsNearTree t → is_node (child side t) ≡ true → is_node (child (opposite side) t) ≡ false → is_leaf (child side t)
  leaf_below Root t near e o = cc
  leaf_below Left empty near e o = cc
  leaf_below Left (node empty x r) near e o = cc
  leaf_below Left (node (node a y b) x r) near e o = let n = no_node_low r o in (refl, low_no_node a (omega (arith, near.0, n)), low_no_node b (omega (arith, near.0, n)))
  leaf_below Right empty near e o = cc
  leaf_below Right (node l x empty) near e o = cc
  leaf_below Right (node l x (node a y b)) near e o = let n = no_node_low l o in (refl, low_no_node a (omega (arith, near.1, n)), low_no_node b (omega (arith, near.1, n)))

  new_leaf_mends : (was : Tree (Label I)) (x : Label I) → height was ≡ 2 → 0 < length x.items → length x.items ≤ most → IsMendableTree least most was (node empty x empty)
  new_leaf_mends was x two some room = (
    record {
      left_fit = tt;
      right_fit = tt;
      left_high = omega arith;
      right_high = omega arith;
      items = (some, room);
      internal = λ a b. cc;
      left_half = λ a b. absurd (omega (arith, a));
      right_half = λ a b. absurd (omega (arith, b));
      left_only = λ a (i, j). cc;
      right_only = λ a (i, j). cc;
    },
    record {
      some = omega (arith, two);
      not_higher = omega (arith, two);
      not_lower = omega (arith, two);
      turned = inl (omega arith, omega arith);
      leaf = λ a b. absurd (omega (arith, a, two));
      one_child = λ a. inl refl;
    },
  )

  merged_mends : (side : Side) (was t : Tree (Label I)) → 1 ≤ least → is_leaf (child side t) → is_node (child (opposite side) t) ≡ false → height t ≡ height was
      → least ≤ length (items_of t) + length (items_of (child side t)) → length (items_of t) + length (items_of (child side t)) ≤ most → IsMendableTree least most was (merged side t)
  merged_mends Root was t some leaf o same enough room = cc
  merged_mends Left was empty some leaf o same enough room = cc
  merged_mends Left was (node empty x r) some leaf o same enough room = cc
  merged_mends Left was (node (node (node a z b) y d) x r) some (_, h, _) o same enough room = cc
  merged_mends Left was (node (node empty y (node a z b)) x r) some (_, _, h) o same enough room = cc
  merged_mends Left was (node (node empty y empty) x (node a z b)) some leaf o same enough room = cc
  merged_mends Left was (node (node empty y empty) x empty) some leaf o same enough room =
      let sum = length-append y.items x.items in
      new_leaf_mends was (record { items = y.items ++ x.items; height = x.height }) (omega (arith, same)) (omega (arith, sum, some, enough)) (omega (arith, sum, room))
  merged_mends Right was empty some leaf o same enough room = cc
  merged_mends Right was (node l x empty) some leaf o same enough room = cc
  merged_mends Right was (node l x (node (node a z b) y d)) some (_, h, _) o same enough room = cc
  merged_mends Right was (node l x (node empty y (node a z b))) some (_, _, h) o same enough room = cc
  merged_mends Right was (node (node a z b) x (node empty y empty)) some leaf o same enough room = cc
  merged_mends Right was (node empty x (node empty y empty)) some leaf o same enough room =
      let sum = length-append x.items y.items in
      new_leaf_mends was (record { items = x.items ++ y.items; height = x.height }) (omega (arith, same)) (omega (arith, sum, some, enough)) (omega (arith, sum, room))

  half_enough : (side : Side) (z : Zipper (Label I)) → HasLostBelow least most z → is_node (child side z.here) ≡ true → is_node (child (opposite side) z.here) ≡ false → least ≤ length (items_of z.here) + length (items_of (child side z.here))
  half_enough Root z k e o = cc
  half_enough Left z k e o = k.left_half e o
  half_enough Right z k e o = k.right_half o e

  stated_merged : (side : Side) (t : Tree (Label I)) → stated (merged side t) ≡ stated t
  stated_merged Root t = refl
  stated_merged Left empty = refl
  stated_merged Left (node empty x r) = refl
  stated_merged Left (node (node a y b) x r) = refl
  stated_merged Right empty = refl
  stated_merged Right (node l x empty) = refl
  stated_merged Right (node l x (node a y b)) = refl

  pub merged-rises : (side : Side) (z : Zipper (Label I)) → 1 ≤ least → HasLostBelow least most z → is_node (child side z.here) ≡ true → is_node (child (opposite side) z.here) ≡ false
      → length (items_of z.here) + length (items_of (child side z.here)) ≤ most → CanRise least most (with_tree (merged side) z)
  merged-rises side z some k e o room =
      record { was = k.was; was_fit = k.was_fit; stated = stated_merged side z.here ∙ k.true_height ∙ k.same; here = merged_mends side k.was z.here some (leaf_below side z.here k.near e o) o k.same (half_enough side z k e o) room }

module _ {I : Type 0} where
  -- a merge frees one node
  pub size_merged : (side : Side) (t : Tree (Label I)) → is_leaf (child side t) → size (merged side t) + 1 ≡ size t
  size_merged Root t leaf = cc
  size_merged Left empty leaf = cc
  size_merged Left (node empty x r) leaf = cc
  size_merged Left (node (node (node a z b) y d) x r) (_, h, _) = cc
  size_merged Left (node (node empty y (node a z b)) x r) (_, _, h) = cc
  size_merged Left (node (node empty y empty) x r) leaf = omega arith
  size_merged Right empty leaf = cc
  size_merged Right (node l x empty) leaf = cc
  size_merged Right (node l x (node (node a z b) y d)) (_, h, _) = cc
  size_merged Right (node l x (node empty y (node a z b))) (_, _, h) = cc
  size_merged Right (node l x (node empty y empty)) leaf = omega arith
