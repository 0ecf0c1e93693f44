-- A node that got other items.
use Rattle.std.proofs.Common.{◌≡◌, List, refl, ap, true}
use Rattle.ttree_node.specs.Tree.{Tree, empty, node, Zipper, Label, at, height, items_of, is_node, new_items, with_items}

module _ {I : Type 0} where
  -- items changed twice
  again_at : (t : Tree (Label I)) (xs ys : List I) → new_items ys (new_items xs t) ≡ new_items ys t
  again_at empty xs ys = refl
  again_at (node l x r) xs ys = refl

  pub items_again : (z : Zipper (Label I)) (xs ys : List I) → with_items ys (with_items xs z) ≡ with_items ys z
  items_again z xs ys = ap (λ (t : Tree (Label I)). at z.above t) (again_at z.here xs ys)

  pub items_at : (t : Tree (Label I)) (xs : List I) → is_node t ≡ true → items_of (new_items xs t) ≡ xs
  items_at empty xs h = cc
  items_at (node l x r) xs h = refl

  pub height-new_items : (xs : List I) (t : Tree (Label I)) → height (new_items xs t) ≡ height t
  height-new_items xs empty = refl
  height-new_items xs (node l x r) = refl

  pub items_now : (z : Zipper (Label I)) (xs : List I) → is_node z.here ≡ true → items_of (with_items xs z).here ≡ xs
  items_now z xs h = items_at z.here xs h

  node_at : (t : Tree (Label I)) (xs : List I) → is_node (new_items xs t) ≡ is_node t
  node_at empty xs = refl
  node_at (node l x r) xs = refl

  pub node_still : (z : Zipper (Label I)) (xs : List I) → is_node (with_items xs z).here ≡ is_node z.here
  node_still z xs = node_at z.here xs
