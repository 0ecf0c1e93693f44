-- A node of a T-tree that lost an item.
use Rattle.std.proofs.Common.{◌≡◌, ℕ, ◌+◌, ◌<◌, ◌≤◌, length, true, false, refl, sym, ap, ◌∙◌, subst, List, [], ◌∷◌, ◌⊎◌, arith, inl, inr}
use Rattle.ttree_node.specs.Tree.{Tree, empty, node, Frame, went_left, went_right, Label, Zipper, at, plug, whole, height, size, is_node, is_root, is_leaf, has_left, has_right, left_of, items_of, new_items, up, without_leaf, with_tree, with_items, list}
use Rattle.ttree.specs.Shape.{IsFit, IsTTree}
use Rattle.ttree.specs.Mending.{CanRise, IsMendableTree}
use Rattle.ttree.specs.Removing.{HasLost, HasLostBelow}
use Rattle.ttree.proofs.Fitness.{high_node, node_high, no_node_low, in_numbers, some_items}
use Rattle.ttree.proofs.EachNode.{each_here}
use Rattle.ttree.proofs.Refits.{items_at, height-new_items}
use Rattle.ttree.proofs.Places.{size-plug_one}
use Rattle.ttree.proofs.Replacing.{fit-new_items, kept-internal, size_merged}
use Rattle.ttree.proofs.Swapped.{fit-swapped, mends-swapped}
use Rattle.ttree_node.specs.Laws.{list-plug}
use Rattle.ttree_node.specs.Seen.{child, merged}
use Rattle.ttree_node.specs.declared.node.Side.{Side}
use Rattle.std.proofs.lemmas.List.{append-nil, nil_from_length}

module _ {I : Type 0} where
  -- what is no leaf has a child
  no_leaf : (t : Tree (Label I)) → (has_left t ≡ true) ⊎ (has_right t ≡ true) → 1 < height t
  no_leaf empty (inl e) = cc
  no_leaf empty (inr e) = cc
  no_leaf (node l x r) (inl e) = omega (arith, node_high l e)
  no_leaf (node l x r) (inr e) = omega (arith, node_high r e)

  one_node : (was : Tree (Label I)) (n : ℕ) → length (items_of was) ≡ n + 1 → is_node was ≡ true
  one_node empty n e = absurd (omega (arith, e))
  one_node (node l x r) n e = refl

module _ {I : Type 0} (least most : ℕ) where
  -- an item is taken out of a node
  pub lost : (z : Zipper (Label I)) (xs : List I) → IsTTree least most (whole z) → length (items_of z.here) ≡ length xs + 1 → HasLost least most (with_items xs z)
  lost z xs f one =
      let is : items_of (new_items xs z.here) ≡ xs = items_at z.here xs (one_node z.here (length xs) one) in
      record { was = z.here; was_fit = f; same = (λ i. new_items (sym is i) z.here); one = one ∙ (λ i. length (sym is i) + 1) }

  -- ---- a node with a child

  below_at : (c : List (Frame (Label I))) (was : Tree (Label I)) (xs : List I) → IsTTree least most (plug c was) → length (items_of was) ≡ length xs + 1 → (has_left was ≡ true) ⊎ (has_right was ≡ true)
      → (has_left was ≡ true → has_right was ≡ true → least ≤ length xs) → HasLostBelow least most (at c (new_items xs was))
  below_at c empty xs f one child internal = absurd (omega (arith, one))
  below_at c (node l w r) xs f one child internal =
      let k = each_here (IsFit least most) c (node l w r) f in let g = in_numbers least most l w r k.1 in
      record {
        was = node l w r;
        was_fit = f;
        tall = no_leaf (node l w r) child;
        same = refl;
        left_fit = k.0;
        right_fit = k.2;
        near = k.1.near;
        true_height = k.1.true_height;
        room = omega (arith, g, one);
        internal = internal;
        left_half = λ a b. omega (arith, g.left_half (node_high l a) (no_node_low r b), one);
        right_half = λ a b. omega (arith, g.right_half (no_node_low l a) (node_high r b), one);
      }

  has_left_same : (xs : List I) (t : Tree (Label I)) → has_left (new_items xs t) ≡ has_left t
  has_left_same xs empty = refl
  has_left_same xs (node l x r) = refl

  has_right_same : (xs : List I) (t : Tree (Label I)) → has_right (new_items xs t) ≡ has_right t
  has_right_same xs empty = refl
  has_right_same xs (node l x r) = refl

  pub left_was : (z : Zipper (Label I)) (k : HasLost least most z) → has_left z.here ≡ has_left k.was
  left_was z k = ap (λ t. has_left t) k.same ∙ has_left_same (items_of z.here) k.was

  pub right_was : (z : Zipper (Label I)) (k : HasLost least most z) → has_right z.here ≡ has_right k.was
  right_was z k = ap (λ t. has_right t) k.same ∙ has_right_same (items_of z.here) k.was

  pub lost-below : (z : Zipper (Label I)) → HasLost least most z → (has_left z.here ≡ true) ⊎ (has_right z.here ≡ true)
      → (has_left z.here ≡ true → has_right z.here ≡ true → least ≤ length (items_of z.here)) → HasLostBelow least most z
  lost-below z k child internal =
      let l = left_was z k in let r = right_was z k in
      subst (λ t. HasLostBelow least most (at z.above t)) (sym k.same)
      (below_at z.above k.was (items_of z.here) k.was_fit k.one (elim child [ inl e ↦ inl (sym l ∙ e) | inr e ↦ inr (sym r ∙ e) ]) (λ a b. internal (l ∙ a) (r ∙ b)))

  -- ---- a leaf that holds some items still

  leaf_low : (was : Tree (Label I)) → has_left was ≡ false → has_right was ≡ false → height was ≤ 1
  leaf_low empty a b = omega arith
  leaf_low (node l x r) a b = omega (arith, no_node_low l a, no_node_low r b)

  leaf_fit : (was : Tree (Label I)) (xs : List I) → IsTTree least most was → length (items_of was) ≡ length xs + 1 → 0 < length xs → has_left was ≡ false → has_right was ≡ false → IsTTree least most (new_items xs was)
  leaf_fit empty xs f one some a b = tt
  leaf_fit (node l w r) xs f one some a b =
      let g = in_numbers least most l w r f.1 in fit-new_items least most xs (node l w r) f some (omega (arith, g, one)) (λ h. absurd (omega (arith, h, leaf_low (node l w r) a b)))

  leaf_above : (c : List (Frame (Label I))) (was : Tree (Label I)) (xs : List I) → is_root c ≡ false → IsTTree least most (plug c was) → length (items_of was) ≡ length xs + 1 → 0 < length xs
      → has_left was ≡ false → has_right was ≡ false → HasLostBelow least most (up (at c (new_items xs was)))
  leaf_above [] was xs e f one some a b = cc
  leaf_above c empty xs e f one some a b = absurd (omega (arith, one))
  leaf_above (went_left x r ∷ c) (node p w q) xs e f one some a b =
      let k = each_here (IsFit least most) c (node (node p w q) x r) f in let g = in_numbers least most (node p w q) x r k.1 in
      record {
        was = node (node p w q) x r;
        was_fit = f;
        tall = omega arith;
        same = refl;
        left_fit = leaf_fit (node p w q) xs k.0 one some a b;
        right_fit = k.2;
        near = k.1.near;
        true_height = k.1.true_height;
        room = g.room;
        internal = k.1.occupied.internal;
        left_half = λ h j. omega (arith, k.1.occupied.left_half h j, one);
        right_half = λ h j. cc;
      }
  leaf_above (went_right l x ∷ c) (node p w q) xs e f one some a b =
      let k = each_here (IsFit least most) c (node l x (node p w q)) f in let g = in_numbers least most l x (node p w q) k.1 in
      record {
        was = node l x (node p w q);
        was_fit = f;
        tall = omega arith;
        same = refl;
        left_fit = k.0;
        right_fit = leaf_fit (node p w q) xs k.2 one some a b;
        near = k.1.near;
        true_height = k.1.true_height;
        room = g.room;
        internal = k.1.occupied.internal;
        left_half = λ h j. cc;
        right_half = λ h j. omega (arith, k.1.occupied.right_half h j, one);
      }

  pub lost-above : (z : Zipper (Label I)) → HasLost least most z → is_root z.above ≡ false → 0 < length (items_of z.here) → has_left z.here ≡ false → has_right z.here ≡ false → HasLostBelow least most (up z)
  lost-above z k e some a b =
      subst (λ t. HasLostBelow least most (up (at z.above t))) (sym k.same)
      (leaf_above z.above k.was (items_of z.here) e k.was_fit k.one some (sym (left_was z k) ∙ a) (sym (right_was z k) ∙ b))

  -- ---- an empty leaf is freed

  internal_node : (t : Tree (Label I)) → is_node (left_of t) ≡ true → is_node t ≡ true
  internal_node empty e = cc
  internal_node (node a y b) e = refl

  low_or_high : (t : Tree (Label I)) → (height t ≤ 1) ⊎ (1 ≤ height t)
  low_or_high empty = inl (omega arith)
  low_or_high (node a y b) = inr (omega arith)

  dropped_left : (was : Tree (Label I)) (x : Label I) (r : Tree (Label I)) → 1 ≤ least → IsTTree least most (node was x r) → height was ≡ 1 → IsMendableTree least most (node was x r) (node empty x r)
  dropped_left was x r some (_, f, rf) leaf =
      let g = in_numbers least most was x r f in (
        record {
          left_fit = tt;
          right_fit = rf;
          left_high = omega arith;
          right_high = omega (arith, g, leaf);
          items = f.items;
          internal = λ a b. cc;
          left_half = λ a b. absurd (omega (arith, a));
          right_half = λ a b. omega (arith, g.internal (omega (arith, leaf)) (omega (arith, b)), some_items least most r rf (omega (arith, b)));
          left_only = λ a (i, j). cc;
          right_only = λ a (i, j). f.occupied.internal (high_node was (omega (arith, leaf))) (internal_node r i);
        },
        record {
          some = omega arith;
          not_higher = omega (arith, leaf);
          not_lower = omega (arith, leaf);
          turned = elim (low_or_high r) [ inl e ↦ inl (omega arith, omega (arith, e)) | inr e ↦ inr (omega (arith, leaf, e)) ];
          leaf = λ a b. absurd (omega (arith, a, leaf));
          one_child = λ a. inl refl;
        },
      )

  dropped_right : (was : Tree (Label I)) (x : Label I) (l : Tree (Label I)) → 1 ≤ least → IsTTree least most (node l x was) → height was ≡ 1 → IsMendableTree least most (node l x was) (node l x empty)
  dropped_right was x l some f leaf = mends-swapped least most was x l empty x l (dropped_left was x l some (fit-swapped least most l x was f) leaf)

  leaf_one : (t : Tree (Label I)) → is_leaf t → height t ≡ 1
  leaf_one empty (h, _, _) = cc
  leaf_one (node l x r) (_, a, b) = omega (arith, no_node_low l a, no_node_low r b)

  dropped_at : (c : List (Frame (Label I))) (was : Tree (Label I)) → 1 ≤ least → IsTTree least most (plug c was) → height was ≡ 1 → is_node (up (at c empty)).here ≡ true → CanRise least most (up (at c empty))
  dropped_at [] was some f leaf e = cc
  dropped_at (went_left x r ∷ c) was some f leaf e = let k = each_here (IsFit least most) c (node was x r) f in record { was = node was x r; was_fit = f; stated = k.1.true_height; here = dropped_left was x r some k leaf }
  dropped_at (went_right l x ∷ c) was some f leaf e = let k = each_here (IsFit least most) c (node l x was) f in record { was = node l x was; was_fit = f; stated = k.1.true_height; here = dropped_right was x l some k leaf }

  pub dropped-rises : (z : Zipper (Label I)) → 1 ≤ least → HasLost least most z → is_leaf z.here → is_node (without_leaf z).here ≡ true → CanRise least most (without_leaf z)
  dropped-rises z some k leaf e = dropped_at z.above k.was some k.was_fit (sym (height-new_items (items_of z.here) k.was) ∙ sym (ap (λ t. height t) k.same) ∙ leaf_one z.here leaf) e

  -- ---- an internal node that holds enough

  pub lost-internal : (z : Zipper (Label I)) → 1 ≤ least → HasLost least most z → has_left z.here ≡ true → has_right z.here ≡ true → least ≤ length (items_of z.here) → IsTTree least most (whole z)
  lost-internal z some k l r enough = kept-internal least most z some (lost-below z k (inl l) (λ a b. enough)) l r

module _ {I : Type 0} where
  without_leaf_whole : (c : List (Frame (Label I))) → whole (up (at c empty)) ≡ plug c empty
  without_leaf_whole [] = refl
  without_leaf_whole (f ∷ c) = refl

  list_leaf : (t : Tree (Label I)) → is_leaf t → length (items_of t) ≡ 0 → list t ≡ []
  list_leaf empty leaf none = refl
  list_leaf (node (node a y b) x r) (_, h, _) none = cc
  list_leaf (node empty x (node a y b)) (_, _, h) none = cc
  list_leaf (node empty x empty) leaf none = append-nil x.items ∙ nil_from_length x.items none

  -- no item goes with it
  pub list-dropped : (z : Zipper (Label I)) → is_leaf z.here → length (items_of z.here) ≡ 0 → list (whole (without_leaf z)) ≡ list (whole z)
  list-dropped z leaf none = ap (λ t. list t) (without_leaf_whole z.above) ∙ list-plug z.above empty z.here (sym (list_leaf z.here leaf none))

  size_leaf : (t : Tree (Label I)) → is_leaf t → size t ≡ 1
  size_leaf empty (h, _, _) = cc
  size_leaf (node (node a y b) x r) (_, h, _) = cc
  size_leaf (node empty x (node a y b)) (_, _, h) = cc
  size_leaf (node empty x empty) leaf = omega arith

  -- but one node does
  pub size-dropped : (z : Zipper (Label I)) → is_leaf z.here → size (whole (without_leaf z)) + 1 ≡ size (whole z)
  size-dropped z leaf = ap (λ t. size t + 1) (without_leaf_whole z.above) ∙ size-plug_one z.above z.here empty (omega (arith, size_leaf z.here leaf))

  pub size-merged : (side : Side) (z : Zipper (Label I)) → is_leaf (child side z.here) → size (whole (with_tree (merged side) z)) + 1 ≡ size (whole z)
  size-merged side z leaf = size-plug_one z.above z.here (merged side z.here) (size_merged side z.here leaf)

module _ {I : Type 0} (least most : ℕ) where
  left_new_items : (xs : List I) (t : Tree (Label I)) → left_of (new_items xs t) ≡ left_of t
  left_new_items xs empty = refl
  left_new_items xs (node l x r) = refl

  left_fits : (t : Tree (Label I)) → IsTTree least most t → IsTTree least most (left_of t)
  left_fits empty f = tt
  left_fits (node l x r) f = f.0

  pub lost-left_fit : (z : Zipper (Label I)) → HasLost least most z → IsTTree least most (left_of z.here)
  lost-left_fit z k = subst (λ t. IsTTree least most (left_of t)) (sym k.same) (subst (λ t. IsTTree least most t) (sym (left_new_items (items_of z.here) k.was)) (left_fits k.was (each_here (IsFit least most) z.above k.was k.was_fit)))
