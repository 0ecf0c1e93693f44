-- A node whose two children are swapped.
use Rattle.std.proofs.Common.{ℕ, arith, inl, inr}
use Rattle.ttree_node.specs.Tree.{Tree, node, Label}
use Rattle.ttree.specs.Shape.{IsTTree}
use Rattle.ttree.specs.Mending.{IsMendable, StandsFor, IsMendableTree}
use Rattle.ttree.proofs.Fitness.{in_numbers, from_swapped}

module _ {I : Type 0} (least most : ℕ) where
  pub fit-swapped : (l : Tree (Label I)) (x : Label I) (r : Tree (Label I)) → IsTTree least most (node l x r) → IsTTree least most (node r x l)
  fit-swapped l x r (lf, f, rf) = (rf, from_swapped least most r x l (in_numbers least most l x r f), lf)

  mendable-swapped : (l : Tree (Label I)) (x : Label I) (r : Tree (Label I)) → IsMendable least most l x r → IsMendable least most r x l
  mendable-swapped l x r k = record {
    left_fit = k.right_fit;
    right_fit = k.left_fit;
    left_high = k.right_high;
    right_high = k.left_high;
    items = k.items;
    internal = λ a b. k.internal b a;
    left_half = λ a b. k.right_half b a;
    right_half = λ a b. k.left_half b a;
    left_only = k.right_only;
    right_only = k.left_only;
  }

  stands-swapped : (a : Tree (Label I)) (w : Label I) (b l : Tree (Label I)) (x : Label I) (r : Tree (Label I)) → StandsFor (node a w b) l x r → StandsFor (node b w a) r x l
  stands-swapped a w b l x r k = record {
    some = omega arith;
    not_higher = omega (arith, k.not_higher);
    not_lower = omega (arith, k.not_lower);
    turned = elim k.turned [ inl near ↦ inl (near.1, near.0) | inr h ↦ inr (omega (arith, h)) ];
    leaf = λ e f. k.leaf (omega (arith, e)) (omega (arith, f));
    one_child = λ e. elim (k.one_child (omega (arith, e))) [ inl o ↦ inr o | inr o ↦ inl o ];
  }

  -- so is the tree that stood there
  pub mends-swapped : (a : Tree (Label I)) (w : Label I) (b l : Tree (Label I)) (x : Label I) (r : Tree (Label I)) → IsMendableTree least most (node a w b) (node l x r) → IsMendableTree least most (node b w a) (node r x l)
  mends-swapped a w b l x r k = (mendable-swapped l x r k.0, stands-swapped a w b l x r k.1)
