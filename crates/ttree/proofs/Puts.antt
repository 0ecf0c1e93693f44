-- The list of a tree with one more item.
use Rattle.std.proofs.Common.{◌≡◌, ℕ, suc, ◌+◌, ◌-◌, ◌<◌, List, [], ◌∷◌, ◌++◌, length, get_or, take, drop, refl, sym, ap, ◌∙◌, append_assoc, arith, true, false}
use Rattle.std.proofs.lemmas.List.{append-nil, take_all, drop_all, length-append, length-drop, take-append-drop, drop_more}
use Rattle.std.specs.List.{insert, remove}
use Rattle.ttree_node.specs.Tree.{Tree, empty, node, Frame, went_left, went_right, Zipper, Label, at, plug, whole, list, size, items_of, left_of, has_left, has_right, is_node, is_root, new_items, with_items, with_leaf, down_left, left_below, list_before, list_after, list_from, list_until}
use Rattle.ttree_node.specs.Seen.{on_side, child, hangs_on_node}
use Rattle.ttree_node.specs.declared.node.Side.{Side}
use Rattle.ttree_node.specs.declared.node.Side.TheVariants.{Root, Left, Right}
use Rattle.ttree_node.proofs.Splits.{list-plug_split}
use Rattle.ttree.specs.Searching.{with_item}
use Rattle.ttree.proofs.Cuts.{list_around, list_cut, front, back}
use Rattle.ttree.proofs.Growing.{leaf}
use Rattle.ttree.proofs.Places.{size-plug_one}

module _ {I : Type 0} where
  -- ---- other items in a node
  around_at : (c : List (Frame (Label I))) (t : Tree (Label I)) (xs : List I) → is_node t ≡ true → list (plug c (new_items xs t)) ≡ front (at c t) ++ (xs ++ back (at c t))
  around_at c empty xs h = cc
  around_at c (node l x r) xs h = list_around (at c (node l (record { items = xs; height = x.height }) r))

  pub list_refilled : (z : Zipper (Label I)) (xs : List I) → is_node z.here ≡ true → list (whole (with_items xs z)) ≡ front z ++ (xs ++ back z)
  list_refilled z xs h = around_at z.above z.here xs h

  between : (b l us : List I) (r : I) (vs w : List I) → (b ++ l) ++ ((us ++ r ∷ vs) ++ w) ≡ (b ++ (l ++ us)) ++ r ∷ (vs ++ w)
  between b l us r vs w = ap (λ zs. (b ++ l) ++ zs) (append_assoc us (r ∷ vs) w) ∙ sym (append_assoc (b ++ l) us (r ∷ (vs ++ w))) ∙ ap (λ zs. zs ++ r ∷ (vs ++ w)) (append_assoc b l us)

  -- an item put into a node
  pub list_put : (z : Zipper (Label I)) (i : ℕ) (r : I) → is_node z.here ≡ true → list (whole (with_items (insert (items_of z.here) i r) z)) ≡ with_item i r z
  list_put z i r h =
      list_refilled z (insert (items_of z.here) i r) h
      ∙ between (list_before z.above) (list (left_of z.here)) (take i (items_of z.here)) r (drop i (items_of z.here)) (back z)

  pub length_insert : (xs : List I) (i : ℕ) (r : I) → length (insert xs i r) ≡ length xs + 1
  length_insert xs i r = omega (arith, length-append (take i xs) (r ∷ drop i xs), length-append (take i xs) (drop i xs), ap (λ (ys : List I). length ys) (take-append-drop i xs))

  -- ---- a leaf on a side of a node
  leaf_list : (y : Zipper (Label I)) (r : I) → list (whole (with_leaf r y)) ≡ list_before y.above ++ r ∷ list_after y.above
  leaf_list y r = list-plug_split y.above (node empty (record { items = r ∷ []; height = 1 }) empty)

  left_at : (c : List (Frame (Label I))) (t : Tree (Label I)) (r : I) → is_node t ≡ true → has_left t ≡ false → list (whole (with_leaf r (left_below c t))) ≡ with_item 0 r (at c t)
  left_at c empty r h o = cc
  left_at c (node (node a y b) x s) r h o = cc
  left_at c (node empty x s) r h o =
      leaf_list (at (went_left x s ∷ c) empty) r ∙ ap (λ zs. zs ++ r ∷ (x.items ++ (list s ++ list_after c))) (sym (append-nil (list_before c)))

  pub list_grown_left : (z : Zipper (Label I)) (r : I) → is_node z.here ≡ true → has_left z.here ≡ false → list (whole (with_leaf r (on_side Left z))) ≡ with_item 0 r z
  list_grown_left z r h o = left_at z.above z.here r h o

  right_at : (c : List (Frame (Label I))) (t : Tree (Label I)) (r : I) → is_node t ≡ true → has_right t ≡ false → list (whole (with_leaf r (on_side Right (at c t)))) ≡ with_item (length (items_of t)) r (at c t)
  right_at c empty r h o = cc
  right_at c (node l x (node a y b)) r h o = cc
  right_at c (node l x empty) r h o =
      leaf_list (at (went_right l x ∷ c) empty) r
      ∙ ap (λ zs. (list_before c ++ (list l ++ zs)) ++ r ∷ list_after c) (sym (take_all (length x.items) x.items (omega arith)))
      ∙ ap (λ zs. (list_before c ++ (list l ++ take (length x.items) x.items)) ++ r ∷ (zs ++ list_after c)) (sym (drop_all (length x.items) x.items (omega arith)))

  pub list_grown_right : (z : Zipper (Label I)) (r : I) → is_node z.here ≡ true → has_right z.here ≡ false → list (whole (with_leaf r (on_side Right z))) ≡ with_item (length (items_of z.here)) r z
  list_grown_right z r h o = right_at z.above z.here r h o

  -- one item more
  pub length_with_item : (z : Zipper (Label I)) (i : ℕ) (r : I) → length (with_item i r z) ≡ length (list (whole z)) + 1
  length_with_item z i r =
      omega (arith, length-append (list_until i z) (r ∷ list_from i z), length-append (list_until i z) (list_from i z), ap (λ (ys : List I). length ys) (list_cut i z))

  pub length_grown : (side : Side) (z : Zipper (Label I)) (r : I) → hangs_on_node side ≡ true → is_node z.here ≡ true → is_node (child side z.here) ≡ false → length (list (whole (with_leaf r (on_side side z)))) ≡ length (list (whole z)) + 1
  length_grown Root z r s h o = cc
  length_grown Left z r s h o = ap (λ (ys : List I). length ys) (list_grown_left z r h o) ∙ length_with_item z 0 r
  length_grown Right z r s h o = ap (λ (ys : List I). length ys) (list_grown_right z r h o) ∙ length_with_item z (length (items_of z.here)) r

  -- and one node more
  size_grown_at : (side : Side) (c : List (Frame (Label I))) (t : Tree (Label I)) (r : I) → hangs_on_node side ≡ true → is_node t ≡ true → is_node (child side t) ≡ false → size (plug c t) + 1 ≡ size (whole (with_leaf r (on_side side (at c t))))
  size_grown_at Root c t r s h o = cc
  size_grown_at Left c empty r s h o = cc
  size_grown_at Left c (node empty x u) r s h o = size-plug_one c (node (leaf r) x u) (node empty x u) (omega arith)
  size_grown_at Left c (node (node a y b) x u) r s h o = cc
  size_grown_at Right c empty r s h o = cc
  size_grown_at Right c (node u x empty) r s h o = size-plug_one c (node u x (leaf r)) (node u x empty) (omega arith)
  size_grown_at Right c (node u x (node a y b)) r s h o = cc

  pub size_grown : (side : Side) (z : Zipper (Label I)) (r : I) → hangs_on_node side ≡ true → is_node z.here ≡ true → is_node (child side z.here) ≡ false → size (whole z) + 1 ≡ size (whole (with_leaf r (on_side side z)))
  size_grown side z r s h o = size_grown_at side z.above z.here r s h o

  -- ---- the end of the left subtree
  end_at : (c : List (Frame (Label I))) (t : Tree (Label I)) (r : I) → is_node t ≡ true → has_right t ≡ false → with_item (length (items_of t)) r (at c t) ≡ (list_before c ++ list t) ++ r ∷ list_after c
  end_at c empty r h o = cc
  end_at c (node l x (node a y b)) r h o = cc
  end_at c (node l x empty) r h o =
      ap (λ zs. (list_before c ++ (list l ++ zs)) ++ r ∷ (drop (length x.items) x.items ++ list_after c)) (take_all (length x.items) x.items (omega arith))
      ∙ ap (λ zs. (list_before c ++ (list l ++ x.items)) ++ r ∷ (zs ++ list_after c)) (drop_all (length x.items) x.items (omega arith))
      ∙ ap (λ zs. (list_before c ++ (list l ++ zs)) ++ r ∷ list_after c) (sym (append-nil x.items))

  begin_at : (c : List (Frame (Label I))) (t : Tree (Label I)) (r : I) → is_node t ≡ true → with_item 0 r (at c t) ≡ (list_before (left_below c t).above ++ list (left_below c t).here) ++ r ∷ list_after (left_below c t).above
  begin_at c empty r h = cc
  begin_at c (node l x s) r h = ap (λ zs. (list_before c ++ zs) ++ r ∷ (x.items ++ (list s ++ list_after c))) (append-nil (list l))

  -- what goes to the end of the left subtree goes before the node's items
  pub with_item_left : (z w : Zipper (Label I)) (r : I) → is_node z.here ≡ true → is_node w.here ≡ true → has_right w.here ≡ false
      → list_before w.above ++ list w.here ≡ list_before (down_left z).above ++ list (down_left z).here → list_after w.above ≡ list_after (down_left z).above
      → with_item (length (items_of w.here)) r w ≡ with_item 0 r z
  with_item_left z w r h k o e f =
      end_at w.above w.here r k o ∙ (λ i. e i ++ r ∷ f i) ∙ sym (begin_at z.above z.here r h)

  -- ---- an item in, and the least one out
  spilt_lists : (b l us vs w : List I) (x r : I) → (b ++ (l ++ [])) ++ x ∷ ((us ++ r ∷ vs) ++ w) ≡ (b ++ (l ++ (x ∷ us))) ++ r ∷ (vs ++ w)
  spilt_lists b l us vs w x r = simp (append_assoc, append-nil)

  spilt_at : (c : List (Frame (Label I))) (t : Tree (Label I)) (j : ℕ) (r least : I) (rest : List I) → is_node t ≡ true → items_of t ≡ least ∷ rest
      → with_item 0 least (at c (new_items (insert rest j r) t)) ≡ with_item (suc j) r (at c t)
  spilt_at c empty j r least rest h e = cc
  spilt_at c (node l x s) j r least rest h e =
      spilt_lists (list_before c) (list l) (take j rest) (drop j rest) (list s ++ list_after c) least r
      ∙ ap (λ zs. (list_before c ++ (list l ++ take (suc j) zs)) ++ r ∷ (drop (suc j) zs ++ (list s ++ list_after c))) (sym e)

  module _ (z : Zipper (Label I)) (i : ℕ) (r : I) (some : 0 < length (items_of z.here)) where
    -- the items without the least one, and r before item i
    abbrev pub spilt : List I
    spilt = insert (remove (items_of z.here) 0) (i - 1) r

    pub length_spilt : length spilt ≡ length (items_of z.here)
    length_spilt = omega (arith, length_insert (remove (items_of z.here) 0) (i - 1) r, length-drop 1 (items_of z.here))

    -- with the least one before them the list is that with r before item i
    pub list_spilt : (least : I) → is_node z.here ≡ true → 0 < i → least ≡ get_or (items_of z.here) 0 least → with_item 0 least (with_items spilt z) ≡ with_item i r z
    list_spilt least h inside e =
        let xs = items_of z.here in
        let parts : xs ≡ least ∷ drop 1 xs = drop_more xs 0 least some ∙ ap (λ y. y ∷ drop 1 xs) (sym e) in
        let next : suc (i - 1) ≡ i = omega arith in
        spilt_at z.above z.here (i - 1) r least (drop 1 xs) h parts ∙ ap (λ n. with_item n r z) next

    pub length_list_spilt : is_node z.here ≡ true → length (list (whole (with_items spilt z))) ≡ length (list (whole z))
    length_list_spilt h =
        let xs = items_of z.here in
        omega (
          arith,
          ap (λ (ys : List I). length ys) (list_refilled z spilt h),
          ap (λ (ys : List I). length ys) (list_around z),
          length_spilt,
          length-append (front z) (spilt ++ back z),
          length-append spilt (back z),
          length-append (front z) (xs ++ back z),
          length-append xs (back z),
        )

  -- ---- the first item
  first_at : (c : List (Frame (Label I))) (t : Tree (Label I)) (r : I) → is_root c ≡ true → is_node t ≡ false → (list (plug c t) ≡ []) × (list (whole (with_leaf r (at c t))) ≡ r ∷ [])
  first_at [] empty r h k = (refl, refl)
  first_at [] (node l x s) r h k = cc
  first_at (f ∷ c) t r h k = cc

  pub list_first : (z : Zipper (Label I)) (r : I) → is_root z.above ≡ true → is_node z.here ≡ false → (list (whole z) ≡ []) × (list (whole (with_leaf r z)) ≡ r ∷ [])
  list_first z r h k = first_at z.above z.here r h k

  size_first_at : (c : List (Frame (Label I))) (t : Tree (Label I)) (r : I) → is_root c ≡ true → is_node t ≡ false → size (plug c t) + 1 ≡ size (whole (with_leaf r (at c t)))
  size_first_at [] empty r h k = refl
  size_first_at [] (node l x s) r h k = cc
  size_first_at (f ∷ c) t r h k = cc

  pub size_first : (z : Zipper (Label I)) (r : I) → is_root z.above ≡ true → is_node z.here ≡ false → size (whole z) + 1 ≡ size (whole (with_leaf r z))
  size_first z r h k = size_first_at z.above z.here r h k
