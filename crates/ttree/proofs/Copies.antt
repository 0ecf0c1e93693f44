-- A leaf with the items of a node is that node once the same trees hang on its sides and its height is stated.
use Rattle.std.proofs.Common.{◌≡◌, ◌≤◌, true, ap, ◌∙◌, List, arith, refl}
use Rattle.ttree_node.specs.Tree.{Tree, empty, node, Label, Frame, Zipper, at, height, is_node, stated, left_of, right_of, items_of, with_height, height_over, with_tree}
use Rattle.ttree_node.specs.declared.node.Side.TheVariants.{Left, Right}
use Rattle.ttree.specs.Shape.{HasTrueHeights, greatest_height}
use Rattle.ttree.specs.Rising.{with_child}

module _ {I : Type 0} where
  true_height : (t : Tree (Label I)) → HasTrueHeights t → stated t ≡ height t
  true_height empty h = refl
  true_height (node l x r) h = h.1

  abbrev leaf_like : Tree (Label I) → Tree (Label I)
  leaf_like t = node empty (record { items = items_of t; height = 1 }) empty

  stated_anew : (c : List (Frame (Label I))) (t : Tree (Label I)) → is_node t ≡ true → HasTrueHeights t → height t ≤ greatest_height → (u : Tree (Label I))
      → u ≡ with_child Right (right_of t) (with_child Left (left_of t) (leaf_like t)) → with_height (height_over u) (at c u) ≡ at c t
  stated_anew c empty e h low u is = cc
  stated_anew c (node l x r) e h low u is =
      let high : height_over (node l x r) ≡ x.height = omega (arith, true_height l h.0, true_height r h.2, h.1, low) in
      ap (λ v. with_height (height_over v) (at c v)) is ∙ ap (λ n. at c (node l (record { items = x.items; height = n }) r)) high

  -- from the leaf at z0, with the left tree at z1, with the right one at z2, and with the height at z3
  pub copied : (c : List (Frame (Label I))) (t : Tree (Label I)) (z0 z1 z2 z3 : Zipper (Label I)) → is_node t ≡ true → HasTrueHeights t → height t ≤ greatest_height
      → z0 ≡ at c (node empty (record { items = items_of t; height = 1 }) empty) → z1 ≡ with_tree (with_child Left (left_of t)) z0 → z2 ≡ with_tree (with_child Right (right_of t)) z1
      → z3 ≡ with_height (height_over z2.here) z2 → z3 ≡ at c t
  copied c t z0 z1 z2 z3 n h low e0 e1 e2 e3 =
      let u : Tree (Label I) = with_child Right (right_of t) (with_child Left (left_of t) (leaf_like t)) in
      let is : z2 ≡ at c u = e2 ∙ ap (λ z. with_tree (with_child Right (right_of t)) z) (e1 ∙ ap (λ z. with_tree (with_child Left (left_of t)) z) e0) in
      e3 ∙ ap (λ z. with_height (height_over z.here) z) is ∙ stated_anew c t n h low u refl
