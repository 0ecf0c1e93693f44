-- A new leaf on a full node, from where the tree is to be balanced.
use Rattle.std.proofs.Common.{◌≡◌, ℕ, ◌≤◌, List, [], ◌∷◌, length, refl, arith, true, false, inr}
use Rattle.ttree_node.specs.Tree.{Tree, empty, node, Frame, Zipper, Label, at, plug, whole, items_of, is_node, with_leaf, up}
use Rattle.ttree_node.specs.Seen.{on_side, child, hangs_on_node}
use Rattle.ttree_node.specs.declared.node.Side.{Side}
use Rattle.ttree_node.specs.declared.node.Side.TheVariants.{Root, Left, Right}
use Rattle.ttree.specs.Shape.{IsFit, IsTTree}
use Rattle.ttree.specs.Mending.{CanRise, IsMendableTree}
use Rattle.ttree.proofs.EachNode.{each_here}
use Rattle.ttree.proofs.Fitness.{low_no_node}
use Rattle.ttree.proofs.Swapped.{fit-swapped, mends-swapped}

module _ {I : Type 0} where
  abbrev pub leaf : I → Tree (Label I)
  leaf r = node empty (record { items = r ∷ []; height = 1 }) empty

  pub leaf_fit : (least most : ℕ) (r : I) → 1 ≤ most → IsTTree least most (leaf r)
  leaf_fit least most r m = (
    tt,
    record {
      near = (omega arith, omega arith);
      true_height = refl;
      items = (omega arith, m);
      occupied = record { internal = λ a b. cc; left_half = λ a b. cc; right_half = λ a b. cc };
    },
    tt,
  )

  module _ (least most : ℕ) (r : I) (some : 1 ≤ most) (c : List (Frame (Label I))) (x : Label I) (s : Tree (Label I)) (enough : least ≤ length x.items) where
    leaf_on_left : IsTTree least most (node empty x s) → IsMendableTree least most (node empty x s) (node (leaf r) x s)
    leaf_on_left f = (
      record {
        left_fit = leaf_fit least most r some;
        right_fit = f.2;
        left_high = omega arith;
        right_high = omega (arith, f.1.near.1);
        items = f.1.items;
        internal = λ a b. enough;
        left_half = λ a b. omega (arith, enough);
        right_half = λ a b. cc;
        left_only = λ a b. enough;
        right_only = λ a b. enough;
      },
      record {
        some = omega arith;
        not_higher = omega arith;
        not_lower = omega arith;
        turned = inr (omega arith);
        leaf = λ a b. absurd (omega arith);
        one_child = λ a. inr (low_no_node s (omega arith));
      },
    )

    left_rises : IsTTree least most (plug c (node empty x s)) → CanRise least most (at c (node (leaf r) x s))
    left_rises fit =
        let f = each_here (IsFit least most) c (node empty x s) fit in record { was = node empty x s; was_fit = fit; stated = f.1.true_height; here = leaf_on_left f }

    right_rises : IsTTree least most (plug c (node s x empty)) → CanRise least most (at c (node s x (leaf r)))
    right_rises fit =
        let f = each_here (IsFit least most) c (node s x empty) fit in
        record { was = node s x empty; was_fit = fit; stated = f.1.true_height; here = mends-swapped least most empty x s (leaf r) x s (leaf_on_left (fit-swapped least most s x empty f)) }

  rises_at : (least most : ℕ) (side : Side) (c : List (Frame (Label I))) (t : Tree (Label I)) (r : I) → 1 ≤ most → hangs_on_node side ≡ true → is_node t ≡ true → is_node (child side t) ≡ false → least ≤ length (items_of t) → IsTTree least most (plug c t) → CanRise least most (up (with_leaf r (on_side side (at c t))))
  rises_at least most Root c t r m s h o e f = cc
  rises_at least most Left c empty r m s h o e f = cc
  rises_at least most Left c (node empty x u) r m s h o e f = left_rises least most r m c x u e f
  rises_at least most Left c (node (node a y b) x u) r m s h o e f = cc
  rises_at least most Right c empty r m s h o e f = cc
  rises_at least most Right c (node u x empty) r m s h o e f = right_rises least most r m c x u e f
  rises_at least most Right c (node u x (node a y b)) r m s h o e f = cc

  -- from the parent of a new leaf the tree can be balanced
  pub grown_rises : (least most : ℕ) (side : Side) (z : Zipper (Label I)) (r : I) → 1 ≤ most → hangs_on_node side ≡ true → is_node z.here ≡ true → is_node (child side z.here) ≡ false → least ≤ length (items_of z.here) → IsTTree least most (whole z) → CanRise least most (up (with_leaf r (on_side side z)))
  grown_rises least most side z r m s h o e f = rises_at least most side z.above z.here r m s h o e f
