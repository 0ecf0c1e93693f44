-- The greatest item of a tree, and a node that it goes to.
use Rattle.std.proofs.Common.{◌≡◌, ℕ, ◌+◌, ◌-◌, ◌<◌, ◌≤◌, length, true, false, refl, sym, ap, ◌∙◌, subst, List, [], ◌∷◌, ◌++◌, arith, append_assoc}
use Rattle.std.specs.List.{remove, insert}
use Rattle.std.proofs.lemmas.List.Edits.{length-insert, length-remove}
use Rattle.ttree_node.specs.Tree.{Tree, empty, node, Frame, went_left, went_right, Label, Zipper, at, plug, whole, size, list, is_node, has_left, has_right, left_of, items_of, new_items, with_tree, with_items, down_left}
use Rattle.ttree_node.specs.Laws.{list-plug}
use Rattle.ttree.specs.Shape.{IsFit, IsTTree}
use Rattle.ttree.specs.Removing.{HasLost, rightmost_from, rightmost_at, rightmost, without_greatest_from, without_greatest, without_left_greatest}
use Rattle.ttree.proofs.Fitness.{node_high, some_items}
use Rattle.ttree.proofs.EachNode.{each_here}
use Rattle.ttree.proofs.Losing.{lost, left_was}
use Rattle.ttree.proofs.Places.{size-plug}
use Rattle.ttree.proofs.Replacing.{whole-new_items}

module _ {X : Type 0} where
  whole_rightmost_from : (c : List (Frame X)) (l : Tree X) (x : X) (r : Tree X) → whole (rightmost_from c l x r) ≡ plug c (node l x r)
  whole_rightmost_from c l x empty = refl
  whole_rightmost_from c l x (node a y b) = whole_rightmost_from (went_right l x ∷ c) a y b

  -- the same tree, from its rightmost node
  whole_rightmost : (c : List (Frame X)) (t : Tree X) → whole (rightmost_at c t) ≡ plug c t
  whole_rightmost c empty = refl
  whole_rightmost c (node l x r) = whole_rightmost_from c l x r

  pub whole-rightmost : (z : Zipper X) → whole (rightmost z) ≡ whole z
  whole-rightmost z = whole_rightmost z.above z.here

  open_from : (c : List (Frame X)) (l : Tree X) (x : X) (r : Tree X) → has_right (rightmost_from c l x r).here ≡ false
  open_from c l x empty = refl
  open_from c l x (node a y b) = open_from (went_right l x ∷ c) a y b

  open_at : (c : List (Frame X)) (t : Tree X) → has_right (rightmost_at c t).here ≡ false
  open_at c empty = refl
  open_at c (node l x r) = open_from c l x r

  pub rightmost-open : (z : Zipper X) → has_right (rightmost z).here ≡ false
  rightmost-open z = open_at z.above z.here

module _ {I : Type 0} where
  node_without : (l : Tree (Label I)) (x : Label I) (r : Tree (Label I)) → is_node (without_greatest_from l x r) ≡ true
  node_without l x empty = refl
  node_without l x (node a y b) = refl

  size_without : (l : Tree (Label I)) (x : Label I) (r : Tree (Label I)) → size (without_greatest_from l x r) ≡ size (node l x r)
  size_without l x empty = refl
  size_without l x (node a y b) = let e = size_without a y b in omega (arith, e)

  size_without_greatest : (t : Tree (Label I)) → size (without_greatest t) ≡ size t
  size_without_greatest empty = refl
  size_without_greatest (node l x r) = size_without l x r

  below_step : (c : List (Frame (Label I))) (l : Tree (Label I)) (x : Label I) (t : Tree (Label I)) → is_node t ≡ true → rightmost_from c l x t ≡ rightmost_at (went_right l x ∷ c) t
  below_step c l x empty e = cc
  below_step c l x (node a y b) e = refl

  -- the rightmost node of the tree without its last item is that of the tree, without its last item
  rightmost_without : (c : List (Frame (Label I))) (l : Tree (Label I)) (x : Label I) (r : Tree (Label I))
      → rightmost_at c (without_greatest_from l x r) ≡ with_items (remove (items_of (rightmost_from c l x r).here) (length (items_of (rightmost_from c l x r).here) - 1)) (rightmost_from c l x r)
  rightmost_without c l x empty = refl
  rightmost_without c l x (node a y b) = below_step c l x (without_greatest_from a y b) (node_without a y b) ∙ rightmost_without (went_right l x ∷ c) a y b

  -- ---- the greatest item is taken at the rightmost node

  -- ---- a node borrows the greatest item of its left subtree

  node_from : (c : List (Frame (Label I))) (l : Tree (Label I)) (x : Label I) (r : Tree (Label I)) → is_node (rightmost_from c l x r).here ≡ true
  node_from c l x empty = refl
  node_from c l x (node a y b) = node_from (went_right l x ∷ c) a y b

  -- the place of the node that gave it
  abbrev lender : I → List (Frame (Label I)) → Tree (Label I) → Zipper (Label I)
  lender g c t = rightmost (down_left (with_items (insert (items_of t) 0 g) (at c (without_left_greatest t))))

  lent_at : (least most : ℕ) (c : List (Frame (Label I))) (was : Tree (Label I)) (xs : List I) (g : I) → least ≤ most → IsTTree least most (plug c was) → length (items_of was) ≡ length xs + 1 → length xs < least
      → has_left was ≡ true → HasLost least most (lender g c (new_items xs was))
  lent_at least most c empty xs g ordered f one few left = absurd (omega (arith, one))
  lent_at least most c (node empty w r) xs g ordered f one few left = cc
  lent_at least most c (node (node a y b) w r) xs g ordered f one few left =
      let front : length (insert xs 0 g) ≡ length xs + 1 = length-insert xs 0 g (omega arith) in
      let c' : List (Frame (Label I)) = went_left (record { items = insert xs 0 g; height = w.height }) r ∷ c in
      let z : Zipper (Label I) = rightmost_from c' a y b in
      let here = each_here (IsFit least most) c (node (node a y b) w r) f in
      let fit : IsTTree least most (plug c' (node a y b)) =
      whole-new_items least most c (node (node a y b) w r) (insert xs 0 g) f (omega (arith, front)) (omega (arith, front, few, ordered)) (omega (arith, front, one)) refl in
      let z_fit : IsTTree least most (whole z) = subst (λ t. IsTTree least most t) (sym (whole_rightmost_from c' a y b)) fit in
      let some : 0 < length (items_of z.here) = some_items least most z.here (each_here (IsFit least most) z.above z.here z_fit) (node_high z.here (node_from c' a y b)) in
      let n = length-remove (items_of z.here) (length (items_of z.here) - 1) (omega (arith, some)) in
      subst (λ v. HasLost least most v) (sym (rightmost_without c' a y b)) (lost least most z (remove (items_of z.here) (length (items_of z.here) - 1)) z_fit (sym n))

  pub lent : (least most : ℕ) (z : Zipper (Label I)) (g : I) → least ≤ most → (k : HasLost least most z) → length (items_of z.here) < least → has_left z.here ≡ true → HasLost least most (lender g z.above z.here)
  lent least most z g ordered k few left =
      subst (λ t. HasLost least most (lender g z.above t)) (sym k.same)
      (lent_at least most z.above k.was (items_of z.here) g ordered k.was_fit k.one few (sym (left_was least most z k) ∙ left))

  list_borrowed : (t : Tree (Label I)) (g : I) → has_left t ≡ true → list (without_greatest (left_of t)) ++ g ∷ [] ≡ list (left_of t) → list (new_items (insert (items_of t) 0 g) (without_left_greatest t)) ≡ list t
  list_borrowed empty g e h = cc
  list_borrowed (node l x r) g e h =
      let front : insert x.items 0 g ≡ g ∷ x.items = refl in
      ap (λ ys. list (without_greatest l) ++ (ys ++ list r)) front ∙ sym (append_assoc (list (without_greatest l)) (g ∷ []) (x.items ++ list r)) ∙ ap (λ ys. ys ++ (x.items ++ list r)) h

  pub list-lent : (z : Zipper (Label I)) (g : I) → has_left z.here ≡ true → list (without_greatest (left_of z.here)) ++ g ∷ [] ≡ list (left_of z.here) → list (whole (with_items (insert (items_of z.here) 0 g) (with_tree without_left_greatest z))) ≡ list (whole z)
  list-lent z g e h = list-plug z.above (new_items (insert (items_of z.here) 0 g) (without_left_greatest z.here)) z.here (list_borrowed z.here g e h)

  size_borrowed : (t : Tree (Label I)) (xs : List I) → size (new_items xs (without_left_greatest t)) ≡ size t
  size_borrowed empty xs = refl
  size_borrowed (node l x r) xs = let n = size_without_greatest l in omega (arith, n)

  pub size-lent : (z : Zipper (Label I)) (xs : List I) → size (whole (with_items xs (with_tree without_left_greatest z))) ≡ size (whole z)
  size-lent z xs = size-plug z.above (new_items xs (without_left_greatest z.here)) z.here (size_borrowed z.here xs)

  items_kept : (t : Tree (Label I)) → items_of (without_left_greatest t) ≡ items_of t
  items_kept empty = refl
  items_kept (node l x r) = refl

  pub put_back : (z z1 z2 : Zipper (Label I)) (g : I) → z1 ≡ with_tree without_left_greatest z → z2 ≡ with_items (insert (items_of z1.here) 0 g) z1 → z2 ≡ with_items (insert (items_of z.here) 0 g) (with_tree without_left_greatest z)
  put_back z z1 z2 g taken back = back ∙ (λ i. with_items (insert (items_of (taken i).here) 0 g) (taken i)) ∙ (λ i. with_items (insert (items_kept z.here i) 0 g) (with_tree without_left_greatest z))

  pub left_kept : (t : Tree (Label I)) (xs : List I) → has_left t ≡ true → has_left (new_items xs (without_left_greatest t)) ≡ true
  left_kept empty xs e = cc
  left_kept (node empty x r) xs e = cc
  left_kept (node (node a y b) x r) xs e = node_without a y b
