-- What fits at a node, in numbers.
use Rattle.std.proofs.Common.{◌≡◌, ℕ, ◌+◌, ◌<◌, ◌≤◌, max, length, true, false, refl, arith}
use Rattle.ttree_node.specs.Tree.{Tree, empty, node, Label, height, is_node, items_of, stated}
use Rattle.ttree.specs.Shape.{IsTTree, IsFit}

-- hl and hr are the heights of the children, il and ir the numbers of their items, h the stated height and n the number of items
pub record Fits (least most hl hr il ir h n : ℕ) : Type 0 where
  pub left_near : hl ≤ 1 + hr
  pub right_near : hr ≤ 1 + hl
  pub true_height : h ≡ 1 + max hl hr
  pub some : 0 < n
  pub room : n ≤ most
  pub internal : 0 < hl → 0 < hr → least ≤ n
  pub left_half : 0 < hl → hr ≡ 0 → least + 1 ≤ n + il
  pub right_half : hl ≡ 0 → 0 < hr → least + 1 ≤ n + ir

pub swapped : (least most hl hr il ir h n : ℕ) → Fits least most hl hr il ir h n → Fits least most hr hl ir il h n
swapped least most hl hr il ir h n f = record {
  left_near = omega arith;
  right_near = omega arith;
  true_height = omega arith;
  some = f.some;
  room = f.room;
  internal = λ a b. f.internal b a;
  left_half = λ a b. f.right_half b a;
  right_half = λ a b. f.left_half b a;
}

module _ {I : Type 0} where
  pub node_high : (t : Tree (Label I)) → is_node t ≡ true → 0 < height t
  node_high empty e = cc
  node_high (node l x r) e = omega arith

  pub high_node : (t : Tree (Label I)) → 0 < height t → is_node t ≡ true
  high_node empty h = absurd (omega (arith, h))
  high_node (node l x r) h = refl

  pub low_no_node : (t : Tree (Label I)) → height t ≡ 0 → is_node t ≡ false
  low_no_node empty h = refl
  low_no_node (node l x r) h = absurd (omega (arith, h))

  pub no_node_low : (t : Tree (Label I)) → is_node t ≡ false → height t ≡ 0
  no_node_low empty e = refl
  no_node_low (node l x r) e = cc

  module _ (least most : ℕ) where
    pub in_numbers : (l : Tree (Label I)) (x : Label I) (r : Tree (Label I)) → IsFit least most l x r
        → Fits least most (height l) (height r) (length (items_of l)) (length (items_of r)) x.height (length x.items)
    in_numbers l x r f = record {
      left_near = f.near.0;
      right_near = f.near.1;
      true_height = f.true_height;
      some = f.items.0;
      room = f.items.1;
      internal = λ a b. f.occupied.internal (high_node l a) (high_node r b);
      left_half = λ a b. f.occupied.left_half (high_node l a) (low_no_node r b);
      right_half = λ a b. f.occupied.right_half (low_no_node l a) (high_node r b);
    }

    pub from_numbers : (l : Tree (Label I)) (x : Label I) (r : Tree (Label I))
        → Fits least most (height l) (height r) (length (items_of l)) (length (items_of r)) x.height (length x.items) → IsFit least most l x r
    from_numbers l x r f = record {
      near = (f.left_near, f.right_near);
      true_height = f.true_height;
      items = (f.some, f.room);
      occupied = record {
        internal = λ a b. f.internal (node_high l a) (node_high r b);
        left_half = λ a b. f.left_half (node_high l a) (no_node_low r b);
        right_half = λ a b. f.right_half (no_node_low l a) (node_high r b);
      };
    }

    -- the same, with the numbers of the right child first
    pub from_swapped : (l : Tree (Label I)) (x : Label I) (r : Tree (Label I))
        → Fits least most (height r) (height l) (length (items_of r)) (length (items_of l)) x.height (length x.items) → IsFit least most l x r
    from_swapped l x r f = from_numbers l x r (swapped least most (height r) (height l) (length (items_of r)) (length (items_of l)) x.height (length x.items) f)

    pub in_swapped : (l : Tree (Label I)) (x : Label I) (r : Tree (Label I)) → IsFit least most l x r
        → Fits least most (height r) (height l) (length (items_of r)) (length (items_of l)) x.height (length x.items)
    in_swapped l x r f = swapped least most (height l) (height r) (length (items_of l)) (length (items_of r)) x.height (length x.items) (in_numbers l x r f)

    pub stated-height : (t : Tree (Label I)) → IsTTree least most t → stated t ≡ height t
    stated-height empty f = refl
    stated-height (node l x r) (_, f, _) = f.true_height

    pub some_items : (t : Tree (Label I)) → IsTTree least most t → 0 < height t → 0 < length (items_of t)
    some_items empty f h = absurd (omega (arith, h))
    some_items (node l x r) (_, f, _) h = f.items.0
