-- A list that rises by a strict order, without a reference that it held.
use Rattle.std.proofs.Common.{◌≡◌, ℕ, ◌+◌, ◌<◌, suc, List, [], ◌∷◌, ◌++◌, length, get_or, take, drop, true, refl, sym, ap, subst, ◌∙◌, arith, Ordering, append_assoc, length-append}
use Rattle.std.specs.List.{All, Contains, remove}
use Rattle.std.specs.declared.cmp.Ordering.TheVariants.{Less, Greater}
use Rattle.std.proofs.lemmas.List.{get_or_append_left, get_or_at, get_or-append-add, drop_more}
use Rattle.mm_index.specs.Order.{IsStrictOver, IsRising, remove_by}
use Rattle.mm_index.proofs.Placed.{remove_by_split, cmp_itself, cmp_from_Less}
use Rattle.ttree_node.specs.Tree.{Tree, empty, node, Frame, Label, Zipper, at, plug, whole, list, is_node, is_root, items_of, right_of, new_items, with_items, list_until, list_from, list_before, list_after}
use Rattle.ttree_node.proofs.Splits.{list-plug_split}
use Rattle.ttree.proofs.Cuts.{list_cut}

module _ {A : Type 0} (covers : A → Type 0) (cmp : A → A → Ordering) (order : IsStrictOver covers cmp) (r : A) (bs cs : List A) (covered : All covers (bs ++ r ∷ cs)) (rising : IsRising cmp (bs ++ r ∷ cs)) where
  size_is : length (bs ++ r ∷ cs) ≡ length bs + (length cs + 1)
  size_is = omega (arith, length-append bs (r ∷ cs))

  r_at : (d : A) → get_or (bs ++ r ∷ cs) (length bs) d ≡ r
  r_at d = get_or_at bs r cs d (length bs) refl

  r_covered : covers r
  r_covered = subst covers (r_at r) (covered (length bs) r (omega (arith, size_is)))

  below : All (λ q. cmp q r ≡ Less) bs
  below k d l =
      let q : get_or (bs ++ r ∷ cs) k d ≡ get_or bs k d = get_or_append_left bs (r ∷ cs) d k l in
      let h : cmp (get_or (bs ++ r ∷ cs) k d) (get_or (bs ++ r ∷ cs) (length bs) d) ≡ Less = rising k (length bs) d l (omega (arith, size_is)) in
      sym (λ i. cmp (q i) (r_at d i)) ∙ h

  above : All (λ q. cmp q r ≡ Greater) cs
  above k d l =
      let q : get_or (bs ++ r ∷ cs) (length bs + suc k) d ≡ get_or cs k d = get_or-append-add bs (r ∷ cs) (suc k) d in
      let inside : length bs + suc k < length (bs ++ r ∷ cs) = omega (arith, size_is, l) in
      let h : cmp (get_or (bs ++ r ∷ cs) (length bs) d) (get_or (bs ++ r ∷ cs) (length bs + suc k) d) ≡ Less = rising (length bs) (length bs + suc k) d (omega arith) inside in
      let c : covers (get_or cs k d) = subst covers q (covered (length bs + suc k) d inside) in
      cmp_from_Less covers cmp order r (get_or cs k d) r_covered c (sym (λ i. cmp (r_at d i) (q i)) ∙ h)

  pub remove_by_rising : remove_by cmp r (bs ++ r ∷ cs) ≡ bs ++ cs
  remove_by_rising = remove_by_split cmp r bs cs below above (cmp_itself covers cmp order r r_covered)

module _ {I : Type 0} where
  -- item i of the node, and what stands on either side of it
  pub list_item : (i : ℕ) (z : Zipper (Label I)) (d : I) → i < length (items_of z.here) → list (whole z) ≡ list_until i z ++ get_or (items_of z.here) i d ∷ list_from (i + 1) z
  list_item i z d l = list_cut i z ∙ ap (λ ys. list_until i z ++ (ys ++ (list (right_of z.here) ++ list_after z.above))) (drop_more (items_of z.here) i d l)

  without_at : (i : ℕ) (c : List (Frame (Label I))) (t : Tree (Label I)) → i < length (items_of t) → list (plug c (new_items (remove (items_of t) i) t)) ≡ list_until i (at c t) ++ list_from (i + 1) (at c t)
  without_at i c empty l = absurd (omega (arith, l))
  without_at i c (node a x b) l =
      let rest : drop (suc i) x.items ≡ drop (i + 1) x.items = let e : suc i ≡ i + 1 = omega arith in ap (λ k. drop k x.items) e in
      list-plug_split c (node a (record { items = remove x.items i; height = x.height }) b)
      ∙ ap (λ ys. list_before c ++ ((list a ++ ((take i x.items ++ ys) ++ list b)) ++ list_after c)) rest
      ∙ simp append_assoc

  -- the list without it
  pub list_without : (i : ℕ) (z : Zipper (Label I)) → i < length (items_of z.here) → list (whole (with_items (remove (items_of z.here) i) z)) ≡ list_until i z ++ list_from (i + 1) z
  list_without i z l = without_at i z.above z.here l

  held_at : (c : List (Frame (Label I))) (t : Tree (Label I)) (r : I) → is_root c ≡ true → Contains (list (plug c t)) r → is_node t ≡ true
  held_at (f ∷ c) t r e held = cc
  held_at [] empty r e held = absurd (omega (arith, held.1))
  held_at [] (node a x b) r e held = refl

  -- a tree that holds something has a root
  pub held_node : (z : Zipper (Label I)) (r : I) → is_root z.above ≡ true → Contains (list (whole z)) r → is_node z.here ≡ true
  held_node z r e held = held_at z.above z.here r e held
