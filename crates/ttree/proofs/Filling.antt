-- Items that go between a node and its only child, a leaf.
use Rattle.std.proofs.Common.{◌≡◌, ℕ, ◌+◌, ◌-◌, ◌<◌, ◌≤◌, length, take, drop, true, false, refl, ap, List, ◌++◌, arith, length-append, length-take, length-drop}
use Rattle.ttree_node.specs.Tree.{Tree, empty, node, Label, size, height, is_node, left_of, right_of, items_of}
use Rattle.ttree_node.specs.Seen.{child, opposite, giver, taker, slid}
use Rattle.ttree_node.specs.declared.node.Side.{Side}
use Rattle.ttree_node.specs.declared.node.Side.TheVariants.{Root, Left, Right}
use Rattle.ttree_node.specs.declared.node.Way.{Way}
use Rattle.ttree_node.specs.declared.node.Way.TheVariants.{Up, Down}
use Rattle.ttree.specs.Shape.{IsTTree}
use Rattle.ttree.specs.Rising.{IsFilled, IsInnerFilled, filled, fill_count, with_child}
use Rattle.ttree.proofs.Fitness.{high_node, low_no_node, in_numbers, from_numbers}
use Rattle.ttree.proofs.Swapped.{fit-swapped}

-- a T-tree of the same shape, after n items went that way
record IsSlid {I : Type 0} (least most n : ℕ) (side : Side) (way : Way) (t u : Tree (Label I)) : Type 0 where
  fit : IsTTree least most u
  left : height (left_of u) ≡ height (left_of t)
  right : height (right_of u) ≡ height (right_of t)
  same : height u ≡ height t
  nodes : size u ≡ size t
  taken : length (items_of (taker way side u)) ≡ length (items_of (taker way side t)) + n

module _ {I : Type 0} (least most : ℕ) where
  -- a leaf with other items
  leaf_refilled : (ys : List I) (a : Tree (Label I)) (y : Label I) (b : Tree (Label I)) → IsTTree least most (node a y b) → height (node a y b) ≤ 1 → 0 < length ys → length ys ≤ most
      → IsTTree least most (node a (record { items = ys; height = y.height }) b)
  leaf_refilled ys a y b (af, f, bf) leaf some room =
      let g = in_numbers least most a y b f in (
        af,
        from_numbers least most a (record { items = ys; height = y.height }) b (record {
          left_near = g.left_near;
          right_near = g.right_near;
          true_height = g.true_height;
          some = some;
          room = room;
          internal = λ h k. absurd (omega (arith, leaf, h));
          left_half = λ h k. absurd (omega (arith, leaf, h));
          right_half = λ h k. absurd (omega (arith, leaf, k));
        }),
        bf,
      )

  right_refilled : (xs ys : List I) (x : Label I) (a : Tree (Label I)) (y : Label I) (b : Tree (Label I)) → IsTTree least most (node empty x (node a y b)) → 0 < length xs → length xs ≤ most → 0 < length ys → length ys ≤ most
      → length xs + length ys ≡ length x.items + length y.items → IsTTree least most (node empty (record { items = xs; height = x.height }) (node a (record { items = ys; height = y.height }) b))
  right_refilled xs ys x a y b (ef, f, cf) some_x room_x some_y room_y sum =
      let g = in_numbers least most empty x (node a y b) f in (
        tt,
        from_numbers least most empty (record { items = xs; height = x.height }) (node a (record { items = ys; height = y.height }) b) (record {
          left_near = g.left_near;
          right_near = g.right_near;
          true_height = g.true_height;
          some = some_x;
          room = room_x;
          internal = λ h k. absurd (omega (arith, h));
          left_half = λ h k. absurd (omega (arith, h));
          right_half = λ h k. omega (arith, g.right_half h k, sum);
        }),
        leaf_refilled ys a y b cf g.right_near some_y room_y,
      )

  left_refilled : (xs ys : List I) (x : Label I) (a : Tree (Label I)) (y : Label I) (b : Tree (Label I)) → IsTTree least most (node (node a y b) x empty) → 0 < length xs → length xs ≤ most → 0 < length ys → length ys ≤ most
      → length xs + length ys ≡ length x.items + length y.items → IsTTree least most (node (node a (record { items = ys; height = y.height }) b) (record { items = xs; height = x.height }) empty)
  left_refilled xs ys x a y b f some_x room_x some_y room_y sum =
      fit-swapped least most empty (record { items = xs; height = x.height }) (node a (record { items = ys; height = y.height }) b)
      (right_refilled xs ys x a y b (fit-swapped least most (node a y b) x empty f) some_x room_x some_y room_y sum)

  slid-is : (side : Side) (way : Way) (n : ℕ) (t : Tree (Label I)) → IsTTree least most t → is_node (child side t) ≡ true → is_node (child (opposite side) t) ≡ false
      → n < length (items_of (giver way side t)) → length (items_of (taker way side t)) + n ≤ most → IsSlid least most n side way t (slid side way n t)
  slid-is Root way n t f e o less room = cc
  slid-is Left way n empty f e o less room = cc
  slid-is Left way n (node empty x r) f e o less room = cc
  slid-is Left way n (node (node a y b) x (node c z d)) f e o less room = cc
  slid-is Left Up n (node (node a y b) x empty) f e o less room =
      let k = length y.items - n in
      let given : length (drop k y.items ++ x.items) ≡ n + length x.items = omega (arith, length-append (drop k y.items) x.items, length-drop k y.items, less) in
      let kept : length (take k y.items) ≡ k = omega (arith, length-take k y.items) in
      record {
        fit = left_refilled (drop k y.items ++ x.items) (take k y.items) x a y b f (omega (arith, given, f.1.items)) (omega (arith, given, room)) (omega (arith, kept, less)) (omega (arith, kept, f.0.1.items)) (omega (arith, given, kept, less));
        left = refl;
        right = refl;
        same = refl;
        nodes = refl;
        taken = omega (arith, given);
      }
  slid-is Left Down n (node (node a y b) x empty) f e o less room =
      let given : length (y.items ++ take n x.items) ≡ length y.items + n = omega (arith, length-append y.items (take n x.items), length-take n x.items, less) in
      let kept : length (drop n x.items) ≡ length x.items - n = length-drop n x.items in
      record {
        fit = left_refilled (drop n x.items) (y.items ++ take n x.items) x a y b f (omega (arith, kept, less)) (omega (arith, kept, f.1.items)) (omega (arith, given, f.0.1.items)) (omega (arith, given, room)) (omega (arith, given, kept, less));
        left = refl;
        right = refl;
        same = refl;
        nodes = refl;
        taken = omega (arith, given);
      }
  slid-is Right way n empty f e o less room = cc
  slid-is Right way n (node l x empty) f e o less room = cc
  slid-is Right way n (node (node c z d) x (node a y b)) f e o less room = cc
  slid-is Right Up n (node empty x (node a y b)) f e o less room =
      let given : length (x.items ++ take n y.items) ≡ length x.items + n = omega (arith, length-append x.items (take n y.items), length-take n y.items, less) in
      let kept : length (drop n y.items) ≡ length y.items - n = length-drop n y.items in
      record {
        fit = right_refilled (x.items ++ take n y.items) (drop n y.items) x a y b f (omega (arith, given, f.1.items)) (omega (arith, given, room)) (omega (arith, kept, less)) (omega (arith, kept, f.2.1.items)) (omega (arith, given, kept, less));
        left = refl;
        right = refl;
        same = refl;
        nodes = refl;
        taken = omega (arith, given);
      }
  slid-is Right Down n (node empty x (node a y b)) f e o less room =
      let k = length x.items - n in
      let given : length (drop k x.items ++ y.items) ≡ n + length y.items = omega (arith, length-append (drop k x.items) y.items, length-drop k x.items, less) in
      let kept : length (take k x.items) ≡ k = omega (arith, length-take k x.items) in
      record {
        fit = right_refilled (take k x.items) (drop k x.items ++ y.items) x a y b f (omega (arith, kept, less)) (omega (arith, kept, f.1.items)) (omega (arith, given, f.2.1.items)) (omega (arith, given, room)) (omega (arith, given, kept, less));
        left = refl;
        right = refl;
        same = refl;
        nodes = refl;
        taken = omega (arith, given);
      }

  -- a half-leaf and its leaf
  half : (side : Side) (t : Tree (Label I)) → IsTTree least most t → is_node (child side t) ≡ true → is_node (child (opposite side) t) ≡ false
      → (least + 1 ≤ length (items_of t) + length (items_of (child side t))) × (0 < length (items_of t)) × (length (items_of t) ≤ most) × (0 < length (items_of (child side t))) × (length (items_of (child side t)) ≤ most)
      × (height (child side t) ≡ 1)
  half Root t f e o = cc
  half Left empty f e o = cc
  half Left (node empty x r) f e o = cc
  half Left (node (node a y b) x (node c z d)) f e o = cc
  half Left (node (node a y b) x empty) f e o = let g = in_numbers least most (node a y b) x empty f.1 in (omega (arith, g), g.some, g.room, f.0.1.items.0, f.0.1.items.1, omega (arith, g))
  half Right empty f e o = cc
  half Right (node l x empty) f e o = cc
  half Right (node (node c z d) x (node a y b)) f e o = cc
  half Right (node empty x (node a y b)) f e o = let g = in_numbers least most empty x (node a y b) f.1 in (omega (arith, g), g.some, g.room, f.2.1.items.0, f.2.1.items.1, omega (arith, g))

  -- the child on that side is a leaf, and higher than the other: there is no other
  leaf_inner : (side : Side) (t : Tree (Label I)) → height (child side t) ≡ 1 → height (child (opposite side) t) < height (child side t) → (is_node (child side t) ≡ true) × (is_node (child (opposite side) t) ≡ false)
  leaf_inner side t e low = (high_node (child side t) (omega (arith, e)), low_no_node (child (opposite side) t) (omega (arith, e, low)))

  pub inner-filled : (side : Side) (t : Tree (Label I)) → least ≤ most → IsTTree least most t → height (child side t) ≡ 1 → height (child (opposite side) t) < height (child side t)
      → length (items_of (child side t)) < least → IsInnerFilled side least most t (filled most side Down t)
  inner-filled side t ordered f e low few =
      let i = leaf_inner side t e low in let h = half side t f i.0 i.1 in
      let s = slid-is side Down (fill_count most side Down t) t f i.0 i.1 (omega (arith, h.1)) (omega (arith, h.4)) in
      record {
        fit = s.fit;
        left = s.left;
        right = s.right;
        same = s.same;
        enough = omega (arith, s.taken, h.0, ordered);
        nodes = s.nodes;
        kept = λ many. absurd (omega (arith, few, many));
        leaf_filled = λ leaf less more. omega (arith, s.taken, h.4, more);
      }

  left_filled_below : (l : Tree (Label I)) (x : Label I) (r u : Tree (Label I)) → IsTTree least most (node l x r) → 1 < height l → height r < height l → IsFilled least most l u → IsInnerFilled Left least most (node l x r) (node u x r)
  left_filled_below l x r u f high low k =
      let g = in_numbers least most l x r f.1 in
      record {
        fit = (
          k.fit,
          from_numbers least most u x r (record {
            left_near = omega (arith, g, k.same);
            right_near = omega (arith, g, k.same);
            true_height = omega (arith, g, k.same);
            some = g.some;
            room = g.room;
            internal = λ a b. g.internal (omega (arith, k.same, a)) b;
            left_half = λ a b. absurd (omega (arith, g, high, b));
            right_half = λ a b. absurd (omega (arith, k.same, high, a));
          }),
          f.2,
        );
        left = k.same;
        right = refl;
        same = omega (arith, k.same);
        enough = k.enough high;
        nodes = omega (arith, k.nodes);
        kept = λ many. ap (λ w. node w x r) (k.kept many);
        leaf_filled = λ leaf less more. absurd (omega (arith, high, leaf));
      }

  -- the child is no leaf, and was filled from its own child
  pub inner-filled_below : (side : Side) (t u : Tree (Label I)) → IsTTree least most t → 1 < height (child side t) → height (child (opposite side) t) < height (child side t)
      → IsFilled least most (child side t) u → IsInnerFilled side least most t (with_child side u t)
  inner-filled_below Root t u f high low k = absurd (omega (arith, high))
  inner-filled_below Left empty u f high low k = absurd (omega (arith, high))
  inner-filled_below Left (node l x r) u f high low k = left_filled_below l x r u f high low k
  inner-filled_below Right empty u f high low k = absurd (omega (arith, high))
  inner-filled_below Right (node l x r) u f high low k =
      let i = left_filled_below r x l u (fit-swapped least most l x r f) high low k in
      record {
        fit = fit-swapped least most u x l i.fit;
        left = refl;
        right = k.same;
        same = omega (arith, k.same);
        enough = i.enough;
        nodes = omega (arith, k.nodes);
        kept = λ many. ap (λ w. node l x w) (k.kept many);
        leaf_filled = i.leaf_filled;
      }
