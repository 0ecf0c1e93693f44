-- Steps down to a child and back up.
use Rattle.std.proofs.Common.{◌≡◌, ℕ, ◌+◌, ◌≤◌, ◌<◌, length, true, false, refl, sym, ◌∙◌, List, [], ◌∷◌, ◌++◌, arith, length-append}
use Rattle.ttree_node.specs.Tree.{Tree, empty, node, Frame, went_left, went_right, Label, Zipper, at, plug, whole, list, size, height, is_node, has_left, has_right, up, items_of, new_items, new_height, with_height, with_items, with_tree}
use Rattle.ttree_node.specs.Laws.{list-plug}
use Rattle.ttree_node.specs.Seen.{on_side, child}
use Rattle.ttree_node.specs.declared.node.Side.{Side}
use Rattle.ttree_node.specs.declared.node.Side.TheVariants.{Root, Left, Right}
use Rattle.ttree.specs.Rising.{with_child}

module _ {X : Type 0} where
  returned_at : (side : Side) (c : List (Frame X)) (t : Tree X) → is_node (child side t) ≡ true → (u : Tree X) → up (at (on_side side (at c t)).above u) ≡ at c (with_child side u t)
  returned_at Root c t e u = cc
  returned_at Left c empty e u = cc
  returned_at Left c (node l x r) e u = refl
  returned_at Right c empty e u = cc
  returned_at Right c (node l x r) e u = refl

  -- a child that was changed, seen from its parent
  pub returned : (side : Side) (z : Zipper X) → is_node (child side z.here) ≡ true → (u : Tree X) → up (at (on_side side z).above u) ≡ at z.above (with_child side u z.here)
  returned side z e u = returned_at side z.above z.here e u

  there_at : (side : Side) (c : List (Frame X)) (t : Tree X) → is_node (child side t) ≡ true → (on_side side (at c t)).here ≡ child side t
  there_at Root c t e = cc
  there_at Left c empty e = cc
  there_at Left c (node l x r) e = refl
  there_at Right c empty e = cc
  there_at Right c (node l x r) e = refl

  pub there : (side : Side) (z : Zipper X) → is_node (child side z.here) ≡ true → (on_side side z).here ≡ child side z.here
  there side z e = there_at side z.above z.here e

  whole_at : (side : Side) (c : List (Frame X)) (t : Tree X) → whole (on_side side (at c t)) ≡ plug c t
  whole_at Root c t = refl
  whole_at Left c empty = refl
  whole_at Left c (node l x r) = refl
  whole_at Right c empty = refl
  whole_at Right c (node l x r) = refl

  pub whole-on_side : (side : Side) (z : Zipper X) → whole (on_side side z) ≡ whole z
  whole-on_side side z = whole_at side z.above z.here

  whole_up : (c : List (Frame X)) (t : Tree X) → whole (up (at c t)) ≡ plug c t
  whole_up [] t = refl
  whole_up (f ∷ c) t = refl

  pub whole-up : (z : Zipper X) → whole (up z) ≡ whole z
  whole-up z = whole_up z.above z.here

  -- a step down, a change there, and the step back up
  changed_at : (f : Tree X → Tree X) (side : Side) (c : List (Frame X)) (t : Tree X) → is_node (child side t) ≡ true → up (with_tree f (on_side side (at c t))) ≡ at c (with_child side (f (child side t)) t)
  changed_at f Root c t e = cc
  changed_at f Left c empty e = cc
  changed_at f Left c (node l x r) e = refl
  changed_at f Right c empty e = cc
  changed_at f Right c (node l x r) e = refl

  pub changed_below : (f : Tree X → Tree X) (side : Side) (z : Zipper X) → is_node (child side z.here) ≡ true → up (with_tree f (on_side side z)) ≡ with_tree (λ t. with_child side (f (child side t)) t) z
  changed_below f side z e = changed_at f side z.above z.here e

  -- the child of a node that got another child
  pub child-with_child : (side : Side) (u t : Tree X) → is_node (child side t) ≡ true → child side (with_child side u t) ≡ u
  child-with_child Root u t e = cc
  child-with_child Left u empty e = cc
  child-with_child Left u (node l x r) e = refl
  child-with_child Right u empty e = cc
  child-with_child Right u (node l x r) e = refl

  -- a step down to z1, a change there to z2, and the step back up to z3
  pub came_back : (side : Side) (z z1 z2 z3 : Zipper X) → is_node (child side z.here) ≡ true → z1 ≡ on_side side z → z2.above ≡ z1.above → z3 ≡ up z2
      → (z3.above ≡ z.above) × (z3.here ≡ with_child side (child side z3.here) z.here) × (child side z3.here ≡ z2.here) × (z1.here ≡ child side z.here)
  came_back side z z1 z2 z3 e down kept back =
      let above : z2.above ≡ (on_side side z).above = kept ∙ (λ i. (down i).above) in
      let is : z3 ≡ at z.above (with_child side z2.here z.here) = back ∙ (λ i. up (at (above i) z2.here)) ∙ returned side z e z2.here in
      let below : child side z3.here ≡ z2.here = (λ i. child side (is i).here) ∙ child-with_child side z2.here z.here e in
      ((λ i. (is i).above), (λ i. (is i).here) ∙ (λ i. with_child side (sym below i) z.here), below, (λ i. (down i).here) ∙ there side z e)

  -- no leaf, or a leaf
  pub not_leaf-high : (t : Tree X) → is_node t ≡ true → ((has_left t ≡ false) × (has_right t ≡ false) → ⊥) → 1 < height t
  not_leaf-high empty e h = cc
  not_leaf-high (node empty x empty) e h = absurd (h (refl, refl))
  not_leaf-high (node (node a y b) x r) e h = omega arith
  not_leaf-high (node empty x (node a y b)) e h = omega arith

  pub leaf-height : (t : Tree X) → is_node t ≡ true → has_left t ≡ false → has_right t ≡ false → height t ≡ 1
  leaf-height empty e l r = cc
  leaf-height (node empty x empty) e l r = omega arith
  leaf-height (node (node a y b) x r) e l r' = cc
  leaf-height (node empty x (node a y b)) e l r = cc

  -- subtrees of as many nodes may stand in for each other
  pub size-plug : (c : List (Frame X)) (t u : Tree X) → size t ≡ size u → size (plug c t) ≡ size (plug c u)
  size-plug [] t u e = e
  size-plug (went_left x r ∷ c) t u e = size-plug c (node t x r) (node u x r) (omega (arith, e))
  size-plug (went_right l x ∷ c) t u e = size-plug c (node l x t) (node l x u) (omega (arith, e))

  -- and a subtree of one node fewer leaves one node fewer
  pub size-plug_one : (c : List (Frame X)) (t u : Tree X) → size u + 1 ≡ size t → size (plug c u) + 1 ≡ size (plug c t)
  size-plug_one [] t u e = e
  size-plug_one (went_left x r ∷ c) t u e = size-plug_one c (node t x r) (node u x r) (omega (arith, e))
  size-plug_one (went_right l x ∷ c) t u e = size-plug_one c (node l x t) (node l x u) (omega (arith, e))

module _ {I : Type 0} where
  pub list-new_height : (h : ℕ) (t : Tree (Label I)) → list (new_height h t) ≡ list t
  list-new_height h empty = refl
  list-new_height h (node l x r) = refl

  pub list-with_height : (h : ℕ) (z : Zipper (Label I)) → list (whole (with_height h z)) ≡ list (whole z)
  list-with_height h z = list-plug z.above (new_height h z.here) z.here (list-new_height h z.here)

  -- a subtree's list is no longer than the whole one
  pub list_within : (c : List (Frame (Label I))) (t : Tree (Label I)) → length (list t) ≤ length (list (plug c t))
  list_within [] t = omega arith
  list_within (went_left x r ∷ c) t = let below = list_within c (node t x r) in omega (arith, length-append (list t) (x.items ++ list r), below)
  list_within (went_right l x ∷ c) t = let below = list_within c (node l x t) in omega (arith, length-append (list l) (x.items ++ list t), length-append x.items (list t), below)

  size_new_items : (xs : List I) (t : Tree (Label I)) → size (new_items xs t) ≡ size t
  size_new_items xs empty = refl
  size_new_items xs (node l x r) = refl

  pub size-with_items : (xs : List I) (z : Zipper (Label I)) → size (whole (with_items xs z)) ≡ size (whole z)
  size-with_items xs z = size-plug z.above (new_items xs z.here) z.here (size_new_items xs z.here)

  new_items_shorter : (xs : List I) (t : Tree (Label I)) → length xs ≤ length (items_of t) → length (list (new_items xs t)) ≤ length (list t)
  new_items_shorter xs empty less = omega arith
  new_items_shorter xs (node l x r) less =
      omega (arith, length-append (list l) (xs ++ list r), length-append xs (list r), length-append (list l) (x.items ++ list r), length-append x.items (list r), less)

  plug_shorter : (c : List (Frame (Label I))) (t u : Tree (Label I)) → length (list u) ≤ length (list t) → length (list (plug c u)) ≤ length (list (plug c t))
  plug_shorter [] t u less = less
  plug_shorter (went_left x r ∷ c) t u less = plug_shorter c (node t x r) (node u x r) (omega (arith, length-append (list t) (x.items ++ list r), length-append (list u) (x.items ++ list r), less))
  plug_shorter (went_right l x ∷ c) t u less =
      plug_shorter c (node l x t) (node l x u)
      (omega (arith, length-append (list l) (x.items ++ list t), length-append x.items (list t), length-append (list l) (x.items ++ list u), length-append x.items (list u), less))

  -- fewer items in a node, fewer in the tree
  pub shorter : (xs : List I) (z : Zipper (Label I)) → length xs ≤ length (items_of z.here) → length (list (whole (with_items xs z))) ≤ length (list (whole z))
  shorter xs z less = plug_shorter z.above z.here (new_items xs z.here) (new_items_shorter xs z.here less)
