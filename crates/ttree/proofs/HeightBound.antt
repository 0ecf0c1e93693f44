-- A T-tree is not high: there is more than one item for each two steps of height.
use Rattle.std.proofs.Common.{◌≡◌, ℕ, ◌+◌, ◌*◌, ◌^◌, ◌<◌, ◌≤◌, length, ◌++◌, arith, length-append}
use Rattle.ttree_node.specs.Tree.{Tree, empty, node, Label, height, list, Zipper, whole}
use Rattle.ttree.specs.Shape.{IsTTree}
use Rattle.ttree.specs.Rising.{IsMendableHere}
use Rattle.ttree.proofs.Fitness.{in_numbers}
use Rattle.ttree.proofs.Places.{list_within}

module _ {I : Type 0} (least most : ℕ) where
  pub height-short : (t : Tree (Label I)) → IsTTree least most t → (2 * height t ≤ length (list t) + 2) × (height t ≤ length (list t))
  height-short empty f = (omega arith, omega arith)
  height-short (node l x r) (lf, f, rf) =
      let a = height-short l lf in let b = height-short r rf in let n = in_numbers least most l x r f in
      let whole_length : length (list l ++ (x.items ++ list r)) ≡ length (list l) + (length x.items + length (list r)) = omega (arith, length-append (list l) (x.items ++ list r), length-append x.items (list r)) in
      (omega (arith, a.0, a.1, b.0, b.1, n, whole_length), omega (arith, a.1, b.1, n, whole_length))

  -- so each height fits 32 bits where there are at most 2^32 items
  mendable_low : (t : Tree (Label I)) → IsMendableHere least most t → length (list t) ≤ 2 ^ 32 → height t < 4294967295
  mendable_low empty k short = absurd k
  mendable_low (node l x r) k short =
      let a = height-short l k.left_fit in let b = height-short r k.right_fit in
      omega (arith, a.0, b.0, length-append (list l) (x.items ++ list r), length-append x.items (list r), short)

  pub mendable-low : (z : Zipper (Label I)) → IsMendableHere least most z.here → length (list (whole z)) ≤ 2 ^ 32 → height z.here < 4294967295
  mendable-low z k short = mendable_low z.here k (omega (arith, list_within z.above z.here, short))
