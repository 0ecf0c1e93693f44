-- What the list of a tree is after an edit at a place.
use Rattle.std.specs.Prelude.{◌≡◌, ℕ, ◌-◌, true, false, length, take, drop, List, [], ◌∷◌, ◌++◌, refl}
use Rattle.std.proofs.lemmas.List.{take-append-drop}
use Rattle.std.proofs.Common.{append_assoc, sym, ap, ◌∙◌}
use Rattle.ttree_node.specs.Tree.{Tree, empty, node, Frame, went_left, went_right, Zipper, Label, plug, whole, list, rotated_left, rotated_right, with_tree, is_leaf, left_of, right_of, merged_left, merged_right, has_left, has_right, is_node, dealt_left, dealt_right, items_of}
use Rattle.ttree_node.specs.declared.node.Way.{Way}
use Rattle.ttree_node.specs.declared.node.Way.TheVariants.{Up, Down}
use Rattle.ttree_node.specs.declared.node.Side.{Side}
use Rattle.ttree_node.specs.declared.node.Side.TheVariants.{Root, Left, Right}
use Rattle.ttree_node.specs.Seen.{child, opposite, raised, merged, slid}

module _ {I : Type 0} where
  -- a rotation keeps the list
  list-rotated_left : (t : Tree (Label I)) → list (rotated_left t) ≡ list t
  list-rotated_left empty = refl
  list-rotated_left (node l x empty) = refl
  list-rotated_left (node l x (node m y r)) =
      append_assoc (list l) (x.items ++ list m) (y.items ++ list r) ∙ ap (λ zs. list l ++ zs) (append_assoc x.items (list m) (y.items ++ list r))

  list-rotated_right : (t : Tree (Label I)) → list (rotated_right t) ≡ list t
  list-rotated_right empty = refl
  list-rotated_right (node empty x r) = refl
  list-rotated_right (node (node l y m) x r) =
      sym (append_assoc (list l) (y.items ++ list m) (x.items ++ list r) ∙ ap (λ zs. list l ++ zs) (append_assoc y.items (list m) (x.items ++ list r)))

  -- two trees with one list may stand in for each other at any place
  pub list-plug : (c : List (Frame (Label I))) (t u : Tree (Label I)) → list t ≡ list u → list (plug c t) ≡ list (plug c u)
  list-plug [] t u e = e
  list-plug (went_left x r ∷ c) t u e = list-plug c (node t x r) (node u x r) (ap (λ zs. zs ++ (x.items ++ list r)) e)
  list-plug (went_right l x ∷ c) t u e = list-plug c (node l x t) (node l x u) (ap (λ zs. list l ++ (x.items ++ zs)) e)

  list-raised : (side : Side) (t : Tree (Label I)) → list (raised side t) ≡ list t
  list-raised Root t = refl
  list-raised Left t = list-rotated_right t
  list-raised Right t = list-rotated_left t

  -- so a rotation keeps the whole list
  pub list-whole-raised : (side : Side) (z : Zipper (Label I)) → list (whole (with_tree (raised side) z)) ≡ list (whole z)
  list-whole-raised side z = list-plug z.above (raised side z.here) z.here (list-raised side z.here)

  -- a merge with a leaf keeps the list
  pub list-merged_right : (t : Tree (Label I)) → is_leaf (right_of t) → list (merged_right t) ≡ list t
  list-merged_right empty h = refl
  list-merged_right (node l x empty) h = refl
  list-merged_right (node l x (node empty y empty)) h = ap (λ zs. list l ++ zs) (append_assoc x.items y.items [])
  list-merged_right (node l x (node empty y (node a b c))) (_, _, h) = cc
  list-merged_right (node l x (node (node a b c) y r)) (_, h, _) = cc

  pub list-merged_left : (t : Tree (Label I)) → is_leaf (left_of t) → list (merged_left t) ≡ list t
  list-merged_left empty h = refl
  list-merged_left (node empty x r) h = refl
  list-merged_left (node (node empty y empty) x r) h = append_assoc y.items x.items (list r) ∙ sym (append_assoc y.items [] (x.items ++ list r))
  list-merged_left (node (node empty y (node a b c)) x r) (_, _, h) = cc
  list-merged_left (node (node (node a b c) y m) x r) (_, h, _) = cc

  pub list-merged : (side : Side) (t : Tree (Label I)) → is_leaf (child side t) → list (merged side t) ≡ list t
  list-merged Root t h = refl
  list-merged Left t h = list-merged_left t h
  list-merged Right t h = list-merged_right t h

  pub list-whole-merged : (side : Side) (z : Zipper (Label I)) → is_leaf (child side z.here) → list (whole (with_tree (merged side) z)) ≡ list (whole z)
  list-whole-merged side z h = list-plug z.above (merged side z.here) z.here (list-merged side z.here h)

  -- two lists that are the same together are so before the rest too
  list-before : (xs ys us vs zs : List I) → us ++ vs ≡ xs ++ ys → us ++ (vs ++ zs) ≡ xs ++ (ys ++ zs)
  list-before xs ys us vs zs e = sym (append_assoc us vs zs) ∙ ap (λ ws. ws ++ zs) e ∙ append_assoc xs ys zs

  -- items that go between a node and a child with nothing between them keep the list
  pub list-dealt_right : (us vs : List I) (t : Tree (Label I)) → has_right t ≡ true → has_left (right_of t) ≡ false
      → us ++ vs ≡ items_of t ++ items_of (right_of t) → list (dealt_right us vs t) ≡ list t
  list-dealt_right us vs empty h o e = cc
  list-dealt_right us vs (node l x empty) h o e = cc
  list-dealt_right us vs (node l x (node (node a b c) y r)) h o e = cc
  list-dealt_right us vs (node l x (node empty y r)) h o e = ap (λ zs. list l ++ zs) (list-before x.items y.items us vs (list r) e)

  pub list-dealt_left : (us vs : List I) (t : Tree (Label I)) → has_left t ≡ true → has_right (left_of t) ≡ false
      → vs ++ us ≡ items_of (left_of t) ++ items_of t → list (dealt_left us vs t) ≡ list t
  list-dealt_left us vs empty h o e = cc
  list-dealt_left us vs (node empty x r) h o e = cc
  list-dealt_left us vs (node (node l y (node a b c)) x r) h o e = cc
  list-dealt_left us vs (node (node l y empty) x r) h o e =
      append_assoc (list l) (vs ++ []) (us ++ list r) ∙ ap (λ zs. list l ++ zs) (append_assoc vs [] (us ++ list r) ∙ list-before y.items x.items vs us (list r) e ∙ sym (append_assoc y.items [] (x.items ++ list r)))
      ∙ sym (append_assoc (list l) (y.items ++ []) (x.items ++ list r))

  list-slid : (side : Side) (way : Way) (n : ℕ) (t : Tree (Label I)) → is_node (child side t) ≡ true → is_node (child (opposite side) (child side t)) ≡ false → list (slid side way n t) ≡ list t
  list-slid Root way n t h o = cc
  list-slid Right Up n t h o = let xs = items_of t in let ys = items_of (right_of t) in
      list-dealt_right (xs ++ take n ys) (drop n ys) t h o (append_assoc xs (take n ys) (drop n ys) ∙ ap (λ zs. xs ++ zs) (take-append-drop n ys))
  list-slid Right Down n t h o = let xs = items_of t in let ys = items_of (right_of t) in let k = length xs - n in
      list-dealt_right (take k xs) (drop k xs ++ ys) t h o (sym (append_assoc (take k xs) (drop k xs) ys) ∙ ap (λ zs. zs ++ ys) (take-append-drop k xs))
  list-slid Left Up n t h o = let xs = items_of t in let ys = items_of (left_of t) in let k = length ys - n in
      list-dealt_left (drop k ys ++ xs) (take k ys) t h o (sym (append_assoc (take k ys) (drop k ys) xs) ∙ ap (λ zs. zs ++ xs) (take-append-drop k ys))
  list-slid Left Down n t h o = let xs = items_of t in let ys = items_of (left_of t) in
      list-dealt_left (drop n xs) (ys ++ take n xs) t h o (append_assoc ys (take n xs) (drop n xs) ∙ ap (λ zs. ys ++ zs) (take-append-drop n xs))

  pub list-whole-slid : (side : Side) (way : Way) (n : ℕ) (z : Zipper (Label I)) → is_node (child side z.here) ≡ true → is_node (child (opposite side) (child side z.here)) ≡ false → list (whole (with_tree (slid side way n) z)) ≡ list (whole z)
  list-whole-slid side way n z h o = list-plug z.above (slid side way n z.here) z.here (list-slid side way n z.here h o)
