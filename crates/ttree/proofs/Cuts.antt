-- The list of a tree, cut at a place.
use Rattle.std.proofs.Common.{◌≡◌, ℕ, ◌+◌, ◌-◌, ◌<◌, List, ◌++◌, length, get_or, take, drop, refl, sym, ap, subst, ◌∙◌, append_assoc, arith, Ordering}
use Rattle.std.specs.List.{All}
use Rattle.std.specs.declared.cmp.Ordering.TheVariants.{Less, Greater}
use Rattle.std.proofs.lemmas.List.{length-append, length-take-le, length-drop, get_or_append_left, get_or-append-add, get_or-take, get_or-drop, get_or_default}
use Rattle.mm_index.specs.Range.{NeverFalls}
use Rattle.ttree_node.specs.Tree.{Tree, empty, node, Zipper, Label, whole, list, items_of, left_of, right_of, list_until, list_from, list_before, list_after}
use Rattle.ttree_node.proofs.Splits.{list-plug_split, list_until-from}
use Rattle.common_lemmas.proofs.Orders.{Less-below, Greater-above}

-- ---- a list inside another
module _ {A : Type 0} (us xs vs : List A) where
  get_inside : (i : ℕ) (d : A) → i < length xs → get_or (us ++ (xs ++ vs)) (length us + i) d ≡ get_or xs i d
  get_inside i d l = get_or-append-add us (xs ++ vs) i d ∙ get_or_append_left xs vs d i l

  length_inside : length (us ++ (xs ++ vs)) ≡ length us + (length xs + length vs)
  length_inside = omega (arith, length-append us (xs ++ vs), length-append xs vs)

  pub All-inside : (P : A → Type 0) → All P (us ++ (xs ++ vs)) → All P xs
  All-inside P h = λ k d l. subst P (get_inside k d l) (h (length us + k) d (omega (arith, length_inside)))

  pub NeverFalls-inside : (place : A → Ordering) → NeverFalls place (us ++ (xs ++ vs)) → NeverFalls place xs
  NeverFalls-inside place h = λ i j d l m.
      rw (← get_inside i d (omega arith), ← get_inside j d m) (h (length us + i) (length us + j) d (omega arith) (omega (arith, length_inside)))

-- ---- the part before a cut, and the part from it on
module _ {A : Type 0} (place : A → Ordering) (us vs : List A) (in_order : NeverFalls place (us ++ vs)) where
  pub below_end : (k : ℕ) (d : A) → k + 1 ≡ length us → place (get_or us k d) ≡ Less → All (λ r. place r ≡ Less) us
  below_end k d e h = λ i c l.
      let last : get_or us k d ≡ get_or (us ++ vs) k c = get_or_default us k d c (omega arith) ∙ sym (get_or_append_left us vs c k (omega arith)) in
      let this : get_or us i c ≡ get_or (us ++ vs) i c = sym (get_or_append_left us vs c i l) in
      Less-below (place (get_or us i c)) (place (get_or us k d)) h (rw (this, last) (in_order i k c (omega arith) (omega (arith, length-append us vs))))

  pub above_begin : (d : A) → 0 < length vs → place (get_or vs 0 d) ≡ Greater → All (λ r. place r ≡ Greater) vs
  above_begin d s h = λ i c l.
      let first : get_or vs 0 d ≡ get_or (us ++ vs) (length us + 0) c = get_or_default vs 0 d c s ∙ sym (get_or-append-add us vs 0 c) in
      let this : get_or vs i c ≡ get_or (us ++ vs) (length us + i) c = sym (get_or-append-add us vs i c) in
      Greater-above (place (get_or vs i c)) (place (get_or vs 0 d)) h
      (rw (this, first) (in_order (length us + 0) (length us + i) c (omega arith) (omega (arith, length-append us vs))))

module _ {I : Type 0} where
  list_parts : (t : Tree (Label I)) → list t ≡ list (left_of t) ++ (items_of t ++ list (right_of t))
  list_parts empty = refl
  list_parts (node l x r) = refl

  -- what stands before the node's items, and after them
  abbrev pub front : Zipper (Label I) → List I
  front z = list_before z.above ++ list (left_of z.here)

  abbrev pub back : Zipper (Label I) → List I
  back z = list (right_of z.here) ++ list_after z.above

  pub list_around : (z : Zipper (Label I)) → list (whole z) ≡ front z ++ (items_of z.here ++ back z)
  list_around z =
      let b = list_before z.above in let a = list_after z.above in let l = list (left_of z.here) in let r = list (right_of z.here) in let xs = items_of z.here in
      list-plug_split z.above z.here ∙ ap (λ zs. b ++ (zs ++ a)) (list_parts z.here)
      ∙ ap (λ zs. b ++ zs) (append_assoc l (xs ++ r) a ∙ ap (λ zs. l ++ zs) (append_assoc xs r a)) ∙ sym (append_assoc b l (xs ++ (r ++ a)))

  pub list_cut : (i : ℕ) (z : Zipper (Label I)) → list (whole z) ≡ list_until i z ++ list_from i z
  list_cut i z = sym (list_until-from i z)

  module _ (place : I → Ordering) (z : Zipper (Label I)) (in_order : NeverFalls place (list (whole z))) where
    pub below_cut : (i : ℕ) (d : I) → i < length (items_of z.here) → place (get_or (items_of z.here) i d) ≡ Less → All (λ r. place r ≡ Less) (list_until (i + 1) z)
    below_cut i d l h =
        let b = list_before z.above in let t = list (left_of z.here) in let xs = items_of z.here in
        let n : length (take (i + 1) xs) ≡ i + 1 = length-take-le (i + 1) xs (omega arith) in
        let is : get_or (list_until (i + 1) z) (length b + (length t + i)) d ≡ get_or xs i d =
        get_or-append-add b (t ++ take (i + 1) xs) (length t + i) d ∙ get_or-append-add t (take (i + 1) xs) i d ∙ get_or-take (i + 1) xs i d (omega arith) in
        below_end place (list_until (i + 1) z) (list_from (i + 1) z) (subst (λ (ws : List I). NeverFalls place ws) (list_cut (i + 1) z) in_order) (length b + (length t + i)) d
        (omega (arith, length-append b (t ++ take (i + 1) xs), length-append t (take (i + 1) xs), n)) (ap place is ∙ h)

    pub above_cut : (i : ℕ) (d : I) → i < length (items_of z.here) → place (get_or (items_of z.here) i d) ≡ Greater → All (λ r. place r ≡ Greater) (list_from i z)
    above_cut i d l h =
        let xs = items_of z.here in
        let n : length (drop i xs) ≡ length xs - i = length-drop i xs in
        let is : get_or (list_from i z) 0 d ≡ get_or xs i d = get_or_append_left (drop i xs) (back z) d 0 (omega arith) ∙ get_or-drop i xs 0 d ∙ ap (λ k. get_or xs k d) (omega arith) in
        above_begin place (list_until i z) (list_from i z) (subst (λ (ws : List I). NeverFalls place ws) (list_cut i z) in_order) d (omega (arith, length-append (drop i xs) (back z))) (ap place is ∙ h)
