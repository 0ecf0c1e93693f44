-- A search goes down a tree, and asks about the least item of each node alone.
use Rattle.std.proofs.Common.{◌≡◌, ℕ, ◌+◌, ◌-◌, ◌<◌, ◌≤◌, List, [], ◌∷◌, ◌++◌, length, get_or, slice_get, drop, refl, sym, ap, subst, ◌∙◌, append_assoc, arith, true, false, Option, Some, None, Ordering}
use Rattle.std.specs.List.{All}
use Rattle.std.specs.Option.{IfSome, IfNone}
use Rattle.std.specs.declared.cmp.Ordering.TheVariants.{Less, Greater}
use Rattle.std.proofs.lemmas.List.{append-nil, take_all, length-drop, get_or-drop}
use Rattle.std.proofs.lemmas.List.Elements.{All-nil, All-append}
use Rattle.part_raw.specs.declared.tuple_ref.TupleRef.{TupleRef}
use Rattle.mm_index.specs.Range.{NeverFalls}
use Rattle.ttree_node.specs.Tree.{Tree, empty, node, Frame, Zipper, Label, at, plug, whole, list, items_of, left_of, right_of, has_left, has_right, is_node, is_root, height, down_left, down_right, left_below, right_below, list_until, list_from, list_before, list_after, list_behind}
use Rattle.ttree_node.specs.Look.{position}
use Rattle.ttree_node.specs.declared.look.Look.{Look}
use Rattle.ttree.specs.Shape.{HasItems, HasItemsInEach}
use Rattle.ttree.specs.Searching.{IsCut, IsGap, IsBehind, IsDescent}
use Rattle.ttree.specs.declared.search.Descent.TheVariants.{End}
use Rattle.ttree.proofs.EachNode.{each_here}
use Rattle.ttree.proofs.Cuts.{below_cut, above_cut, All-inside, NeverFalls-inside, list_around, front, back}
use Rattle.ttree.proofs.Narrowing.{below_at}

module _ {I : Type 0} where
  no_left : (t : Tree (Label I)) → has_left t ≡ false → list t ≡ items_of t ++ list (right_of t)
  no_left empty h = refl
  no_left (node empty x r) h = refl
  no_left (node (node a y b) x r) h = cc

  no_left_list : (t : Tree (Label I)) → has_left t ≡ false → list (left_of t) ≡ []
  no_left_list empty h = refl
  no_left_list (node empty x r) h = refl
  no_left_list (node (node a y b) x r) h = cc

  pub no_right_list : (t : Tree (Label I)) → has_right t ≡ false → list (right_of t) ≡ []
  no_right_list empty h = refl
  no_right_list (node l x empty) h = refl
  no_right_list (node l x (node a y b)) h = cc

  -- ---- where only steps to the left were gone
  before_left : (c : List (Frame (Label I))) (t : Tree (Label I)) → list_before (left_below c t).above ≡ list_before c
  before_left c empty = refl
  before_left c (node l x r) = refl

  pub first-left : (z : Zipper (Label I)) → list_before z.above ≡ [] → list_before (down_left z).above ≡ []
  first-left z h = before_left z.above z.here ∙ h

module _ {I : Type 0} (place : I → Ordering) where
  -- what stands after the place is above the range
  pub record IsAhead (tree : Tree (Label I)) (z : Zipper (Label I)) : Type 0 where
    pub same : whole z ≡ tree
    pub above : All (λ r. place r ≡ Greater) (list_after z.above)

  -- the least item of the node at last is below the range; its items are the last before the place, and what stands behind them is the tree there and what stands after it
  pub record IsLast (tree : Tree (Label I)) (z last : Zipper (Label I)) : Type 0 where
    pub same : whole last ≡ tree
    pub cut : IsCut place (items_of last.here) 1 (length (items_of last.here))
    pub before : list_before z.above ≡ list_until (length (items_of last.here)) last
    pub behind : list_behind last ≡ list z.here ++ list_after z.above

  -- ---- steps
  left_at : (tree : Tree (Label I)) (c : List (Frame (Label I))) (t : Tree (Label I)) → IsAhead tree (at c t) → has_left t ≡ true → All (λ r. place r ≡ Greater) (list_from 0 (at c t)) → IsAhead tree (left_below c t)
  left_at tree c empty b h a = cc
  left_at tree c (node l x r) b h a = record { same = b.same; above = a }

  right_at : (tree : Tree (Label I)) (c : List (Frame (Label I))) (t : Tree (Label I)) → IsAhead tree (at c t) → IsAhead tree (right_below c t)
  right_at tree c empty b = b
  right_at tree c (node l x r) b = record { same = b.same; above = b.above }

  pub ahead-right : (tree : Tree (Label I)) (z : Zipper (Label I)) → IsAhead tree z → IsAhead tree (down_right z)
  ahead-right tree z b = right_at tree z.above z.here b

  last_left_at : (tree : Tree (Label I)) (c : List (Frame (Label I))) (t : Tree (Label I)) (last : Zipper (Label I)) → IsLast tree (at c t) last → IsLast tree (left_below c t) last
  last_left_at tree c empty last b = b
  last_left_at tree c (node l x r) last b = record {
    same = b.same;
    cut = b.cut;
    before = b.before;
    behind = b.behind ∙ append_assoc (list l) (x.items ++ list r) (list_after c) ∙ ap (λ zs. list l ++ zs) (append_assoc x.items (list r) (list_after c));
  }

  pub last-left : (tree : Tree (Label I)) (z last : Zipper (Label I)) → IsLast tree z last → IsLast tree (down_left z) last
  last-left tree z last b = last_left_at tree z.above z.here last b

  last_right_at : (tree : Tree (Label I)) (c : List (Frame (Label I))) (t : Tree (Label I)) → plug c t ≡ tree → IsCut place (items_of t) 1 (length (items_of t)) → has_right t ≡ true → IsLast tree (right_below c t) (at c t)
  last_right_at tree c empty same cut h = cc
  last_right_at tree c (node l x r) same cut h = record {
    same = same;
    cut = cut;
    before = ap (λ xs. list_before c ++ (list l ++ xs)) (sym (take_all (length x.items) x.items (omega arith)));
    behind = refl;
  }

  pub last-right : (tree : Tree (Label I)) (z : Zipper (Label I)) → whole z ≡ tree → IsCut place (items_of z.here) 1 (length (items_of z.here)) → has_right z.here ≡ true → IsLast tree (down_right z) z
  last-right tree z same cut h = last_right_at tree z.above z.here same cut h

  module _ (tree : Tree (Label I)) (in_order : NeverFalls place (list tree)) where
    ordered : (z : Zipper (Label I)) → whole z ≡ tree → NeverFalls place (list (whole z))
    ordered z same = subst (λ (t : Tree (Label I)). NeverFalls place (list t)) (sym same) in_order

    -- ---- what the answer about the least item tells
    module _ (z : Zipper (Label I)) (d : I) (some : 0 < length (items_of z.here)) where
      from_least : whole z ≡ tree → place (get_or (items_of z.here) 0 d) ≡ Greater → All (λ r. place r ≡ Greater) (list_from 0 z)
      from_least same h = above_cut place z (ordered z same) 0 d some h

      pub ahead-left : IsAhead tree z → place (get_or (items_of z.here) 0 d) ≡ Greater → has_left z.here ≡ true → IsAhead tree (down_left z)
      ahead-left b h l = left_at tree z.above z.here b l (from_least b.same h)

    -- ---- where the way ends
    module _ (z : Zipper (Label I)) (d : I) (some : 0 < length (items_of z.here)) (same : whole z ≡ tree) (greater : place (get_or (items_of z.here) 0 d) ≡ Greater) (alone : has_left z.here ≡ false) where
      gap_before : All (λ r. place r ≡ Less) (list_before z.above) → IsGap place z 0
      gap_before below = record {
        index = omega arith;
        below = subst (λ (xs : List I). All (λ r. place r ≡ Less) xs) (sym (ap (λ xs. list_before z.above ++ (xs ++ [])) (no_left_list z.here alone) ∙ append-nil (list_before z.above))) below;
        above = from_least z d some same greater;
        left_open = λ e. alone;
        right_open = λ e. absurd (omega arith);
      }

      pub end-first : list_before z.above ≡ [] → IsGap place z 0
      end-first h = gap_before (subst (λ (xs : List I). All (λ r. place r ≡ Less) xs) (sym h) (All-nil (λ r. place r ≡ Less)))

      module _ (last : Zipper (Label I)) (b : IsLast tree z last) where
        pub end-above : All (λ r. place r ≡ Greater) (list_behind last)
        end-above =
            let here : list_from 0 z ≡ list z.here ++ list_after z.above = sym (append_assoc (items_of z.here) (list (right_of z.here)) (list_after z.above)) ∙ ap (λ xs. xs ++ list_after z.above) (sym (no_left z.here alone)) in
            subst (λ (xs : List I). All (λ r. place r ≡ Greater) xs) (here ∙ sym b.behind) (from_least z d some same greater)

        pub end-next : All (λ r. place r ≡ Less) (items_of last.here) → IsGap place z 0
        end-next h =
            let n = length (items_of last.here) in
            let is : n - 1 + 1 ≡ n = omega (arith, b.cut.ordered) in
            let until : All (λ r. place r ≡ Less) (list_until (n - 1 + 1) last) = below_cut place last (ordered last b.same) (n - 1) d (omega (arith, b.cut.ordered)) (h (n - 1) d (omega (arith, b.cut.ordered))) in
            gap_before (subst (λ (xs : List I). All (λ r. place r ≡ Less) xs) (ap (λ (k : ℕ). list_until k last) is ∙ sym b.before) until)

  -- where no right child hangs there, what is behind the items is what stands after the place
  pub end-here : (tree : Tree (Label I)) (z : Zipper (Label I)) → IsAhead tree z → has_right z.here ≡ false → All (λ r. place r ≡ Greater) (list_behind z)
  end-here tree z b h = subst (λ (xs : List I). All (λ r. place r ≡ Greater) (xs ++ list_after z.above)) (sym (no_right_list z.here h)) b.above

  -- the least item of some stands below the range
  pub least-below : (xs : List I) → NeverFalls place xs → 0 < length xs → (d : I) → place (get_or xs 0 d) ≡ Less → IsCut place xs 1 (length xs)
  least-below xs in_order some d h = record { ordered = some; within = omega arith; below = below_at place xs in_order 0 some d h; above = λ k c l m. absurd (omega (arith, l, m)) }

  -- ---- among the items of that node
  pub gap-behind : (z : Zipper (Label I)) → NeverFalls place (list (whole z)) → I → (i : ℕ) → 0 < i → IsCut place (items_of z.here) i i → All (λ r. place r ≡ Greater) (list_behind z) → (i ≡ length (items_of z.here) → has_right z.here ≡ false) → IsGap place z i
  gap-behind z in_order d i low cut above closed =
      let xs = items_of z.here in
      let is : i - 1 + 1 ≡ i = omega arith in record {
        index = cut.within;
        below = subst (λ (k : ℕ). All (λ r. place r ≡ Less) (list_until k z)) is (below_cut place z in_order (i - 1) d (omega (arith, cut.within)) (cut.below (i - 1) d (omega arith) (omega arith)));
        above = All-append (λ r. place r ≡ Greater) (drop i xs) (list_behind z)
            (λ k c l. subst (λ x. place x ≡ Greater) (sym (get_or-drop i xs k c)) (cut.above (i + k) c (omega arith) (omega (arith, l, length-drop i xs)))) above;
        left_open = λ e. absurd (omega arith);
        right_open = closed;
      }

-- ---- where there was no such node, or no node at all
module _ {I : Type 0} (place : I → Ordering) where
  empty_at : (c : List (Frame (Label I))) (t : Tree (Label I)) → is_root c ≡ true → is_node t ≡ false → IsGap place (at c t) 0
  empty_at [] empty r h = record {
    index = omega arith;
    below = All-nil (λ r. place r ≡ Less);
    above = All-nil (λ r. place r ≡ Greater);
    left_open = λ e. refl;
    right_open = λ e. refl;
  }
  empty_at [] (node l x t) r h = cc
  empty_at (f ∷ c) t r h = cc

  pub end-empty : (z : Zipper (Label I)) → is_root z.above ≡ true → is_node z.here ≡ false → IsGap place z 0
  end-empty z r h = empty_at z.above z.here r h

pub if_none : {A : Type 0} (o : Option A) (P Q : Type 0) → (P → Q) → IfNone o P → IfNone o Q
if_none None P Q f h = f h
if_none (Some a) P Q f h = tt

pub is_descent : {MAX : ℕ} (place : TupleRef → Ordering) (end : Look MAX) (last : Option (Look MAX)) → IfNone last (IsGap place (position end) 0) → IfSome last (IsBehind place end) → IsDescent place end (End last)
is_descent place end None first behind = first
is_descent place end (Some last) first behind = behind

module _ {I : Type 0} where
  -- ---- heights
  pub left_lower : (t : Tree (Label I)) → has_left t ≡ true → height (left_of t) < height t
  left_lower empty h = cc
  left_lower (node l x r) h = omega arith

  pub right_lower : (t : Tree (Label I)) → has_right t ≡ true → height (right_of t) < height t
  right_lower empty h = cc
  right_lower (node l x r) h = omega arith

  left_here_at : (c : List (Frame (Label I))) (t : Tree (Label I)) → (left_below c t).here ≡ left_of t
  left_here_at c empty = refl
  left_here_at c (node l x r) = refl

  pub left_here : (z : Zipper (Label I)) → (down_left z).here ≡ left_of z.here
  left_here z = left_here_at z.above z.here

  right_here_at : (c : List (Frame (Label I))) (t : Tree (Label I)) → (right_below c t).here ≡ right_of t
  right_here_at c empty = refl
  right_here_at c (node l x r) = refl

  pub right_here : (z : Zipper (Label I)) → (down_right z).here ≡ right_of z.here
  right_here z = right_here_at z.above z.here

  -- ---- the items of a node
  pub some_node : (t : Tree (Label I)) → 0 < length (items_of t) → is_node t ≡ true
  some_node empty h = absurd (omega (arith, h))
  some_node (node l x r) h = refl

  some_at : (most : ℕ) (t : Tree (Label I)) → HasItemsInEach most t → is_node t ≡ true → 0 < length (items_of t)
  some_at most empty e h = cc
  some_at most (node l x r) e h = e.1.0

  pub most_here : (most : ℕ) (t : Tree (Label I)) → HasItemsInEach most t → length (items_of t) ≤ most
  most_here most empty e = omega arith
  most_here most (node l x r) e = e.1.1

  -- ---- the least item, as a read gives it
  pub least_is : (xs : List I) (r d : I) → slice_get xs 0 ≡ Some r → get_or xs 0 d ≡ r
  least_is [] r d h = cc
  least_is (x ∷ xs) r d h = cc

  module _ (most : ℕ) (tree : Tree (Label I)) (z : Zipper (Label I)) (same : whole z ≡ tree) where
    items_here : HasItemsInEach most tree → HasItemsInEach most z.here
    items_here h = each_here (HasItems most) z.above z.here (subst (λ (t : Tree (Label I)). HasItemsInEach most t) (sym same) h)

    pub some_here : HasItemsInEach most tree → is_node z.here ≡ true → 0 < length (items_of z.here)
    some_here h n = some_at most z.here (items_here h) n

    pub few_here : HasItemsInEach most tree → length (items_of z.here) ≤ most
    few_here h = most_here most z.here (items_here h)

    pub All-here : (P : I → Type 0) → All P (list tree) → All P (items_of z.here)
    All-here P h = All-inside (front z) (items_of z.here) (back z) P (subst (λ (xs : List I). All P xs) (ap (λ (t : Tree (Label I)). list t) (sym same) ∙ list_around z) h)

    pub NeverFalls-here : (place : I → Ordering) → NeverFalls place (list tree) → NeverFalls place (items_of z.here)
    NeverFalls-here place h =
        NeverFalls-inside (front z) (items_of z.here) (back z) place (subst (λ (xs : List I). NeverFalls place xs) (ap (λ (t : Tree (Label I)). list t) (sym same) ∙ list_around z) h)
