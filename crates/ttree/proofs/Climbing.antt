-- From a place that is mended to the one above it.
use Rattle.std.proofs.Common.{◌≡◌, ℕ, ◌+◌, ◌≤◌, ◌⊎◌, ◌∙◌, length, true, false, List, [], ◌∷◌, arith, inl, inr, sym, ap, subst}
use Rattle.ttree_node.specs.Tree.{Tree, empty, node, Frame, went_left, went_right, Label, Zipper, at, plug, whole, height, stated, is_root, has_left, has_right, items_of, up}
use Rattle.ttree.specs.Shape.{IsFit, IsTTree}
use Rattle.ttree.specs.Mending.{IsMendable, StandsFor, IsMendableTree, CanRise, height_of}
use Rattle.ttree.specs.Rising.{IsMendableHere, IsMendedTo, StandsMended, HasRisen, IsNearTree}
use Rattle.ttree.proofs.EachNode.{each_here}
use Rattle.ttree.proofs.Fitness.{in_numbers, high_node, no_node_low, stated-height}
use Rattle.ttree.proofs.Replacing.{fit-replaced}
use Rattle.ttree.proofs.Swapped.{fit-swapped, mends-swapped}
use Rattle.std.proofs.lemmas.Bool.{cases_lt}

module _ {I : Type 0} (least most : ℕ) where
  pub mendable_here : (was t : Tree (Label I)) → IsMendableTree least most was t → IsMendableHere least most t
  mendable_here was empty k = k
  mendable_here was (node l x r) k = k.0

  -- either it was balanced or it was three high
  near_or_high : (t : Tree (Label I)) → IsNearTree t ⊎ (3 ≤ height t)
  near_or_high empty = inl (omega arith, omega arith)
  near_or_high (node l x r) =
      elim (cases_lt (1 + height r) (height l)) [
        | inl h ↦ inr (omega arith)
        | inr h ↦ elim (cases_lt (1 + height l) (height r)) [ inl k ↦ inr (omega arith) | inr k ↦ inl (h, k) ]
      ]

  pub mended : (was t u : Tree (Label I)) → IsMendableTree least most was t → IsMendedTo least most t u → StandsMended least most was u
  mended was empty u k m = absurd k
  mended was (node l x r) u k m =
      let s = k.1 in
      elim (near_or_high (node l x r)) [
        | inl near ↦
            let same : u ≡ node l (record { items = x.items; height = height_of l r }) r = m.kept near in
            record {
              fit = m.fit;
              some = omega (arith, m.not_lower, s.some, s.not_lower, ap height same);
              was_some = s.some;
              not_higher = omega (arith, ap height same, s.not_higher);
              not_lower = omega (arith, ap height same, s.not_lower);
              leaf = λ a b. subst (λ v. length (items_of was) ≤ length (items_of v)) (sym same) (s.leaf a (omega (arith, ap height same, b)));
              one_child = λ a. subst (λ v. (has_left v ≡ false) ⊎ (has_right v ≡ false)) (sym same) (s.one_child a);
            }
        | inr high ↦ record {
          fit = m.fit;
          some = omega (arith, m.not_lower, high);
          was_some = s.some;
          not_higher = omega (arith, m.not_higher, s.not_higher);
          not_lower = elim s.turned [ inl near ↦ omega (arith, near.0, near.1, s.not_lower, m.not_lower, m.kept near, ap height (m.kept near)) | inr h ↦ omega (arith, h, m.not_lower) ];
          leaf = λ a b. absurd (omega (arith, a, b, m.not_lower, high));
          one_child = λ a. absurd (omega (arith, a, s.not_higher, high));
        }
      ]

  pub has-risen : (before : ℕ) (z : Zipper (Label I)) (u : Tree (Label I)) → (k : CanRise least most z) → before ≡ stated z.here → IsMendedTo least most z.here u → HasRisen least most before (at z.above u)
  has-risen before z u k e m = record { was = k.was; was_fit = k.was_fit; was_high = e ∙ k.stated; here = mended k.was z.here u k.here m }

  joined_left : (was t : Tree (Label I)) (x : Label I) (r : Tree (Label I)) → IsTTree least most (node was x r) → StandsMended least most was t → IsMendable least most t x r × StandsFor (node was x r) t x r
  joined_left was t x r (_, f, rf) s =
      let n = in_numbers least most was x r f in let node_was = high_node was s.was_some in let node_t = high_node t s.some in (
        record {
          left_fit = s.fit;
          right_fit = rf;
          left_high = omega (arith, n, s);
          right_high = omega (arith, n, s);
          items = f.items;
          internal = λ a b. f.occupied.internal node_was b;
          left_half = λ a b. omega (arith, f.occupied.left_half node_was b, s.leaf (omega (arith, n, s, no_node_low r b)) a);
          right_half = λ a b. absurd (omega (arith, s, no_node_low t a));
          left_only = λ b (i, j). elim (s.one_child (omega (arith, n, s, no_node_low r b))) [ inl e ↦ absurd (let e' : true ≡ false = sym i ∙ e in cc) | inr e ↦ absurd (let e' : true ≡ false = sym j ∙ e in cc) ];
          right_only = λ a b. absurd (omega (arith, s, no_node_low t a));
        },
        record {
          some = omega arith;
          not_higher = omega (arith, n, s);
          not_lower = omega (arith, n, s);
          turned = elim (cases_lt (1 + height r) (height t)) [
            | inl h ↦ inr (omega (arith, n, s, h))
            | inr h ↦ elim (cases_lt (1 + height t) (height r)) [ inl k ↦ inr (omega (arith, n, s, k)) | inr k ↦ inl (h, k) ]
          ];
          leaf = λ a b. absurd (omega (arith, a, s));
          one_child = λ a. absurd (omega (arith, a, s));
        },
      )

  joined_right : (was t : Tree (Label I)) (x : Label I) (l : Tree (Label I)) → IsTTree least most (node l x was) → StandsMended least most was t → IsMendable least most l x t × StandsFor (node l x was) l x t
  joined_right was t x l f s = mends-swapped least most was x l t x l (joined_left was t x l (fit-swapped least most l x was f) s)

  can_rise_at : (c : List (Frame (Label I))) (t : Tree (Label I)) → is_root c ≡ false → (was : Tree (Label I)) → IsTTree least most (plug c was) → StandsMended least most was t → CanRise least most (up (at c t))
  can_rise_at [] t e was f s = cc
  can_rise_at (went_left x r ∷ c) t e was f s = let k = each_here (IsFit least most) c (node was x r) f in record { was = node was x r; was_fit = f; stated = k.1.true_height; here = joined_left was t x r k s }
  can_rise_at (went_right l x ∷ c) t e was f s = let k = each_here (IsFit least most) c (node l x was) f in record { was = node l x was; was_fit = f; stated = k.1.true_height; here = joined_right was t x l k s }

  -- what has risen can rise on
  pub can-rise : (before : ℕ) (z : Zipper (Label I)) → is_root z.above ≡ false → HasRisen least most before z → CanRise least most (up z)
  can-rise before z e k = can_rise_at z.above z.here e k.was k.was_fit k.here

  at_root : (c : List (Frame (Label I))) (t : Tree (Label I)) → is_root c ≡ true → IsTTree least most t → IsTTree least most (plug c t)
  at_root [] t e f = f
  at_root (g ∷ c) t e f = cc

  -- and at the root the whole tree is a T-tree
  pub risen-fit : (before : ℕ) (z : Zipper (Label I)) → is_root z.above ≡ true → HasRisen least most before z → IsTTree least most (whole z)
  risen-fit before z e k = at_root z.above z.here e k.here.fit

  -- as it is where the tree is as high as the one that stood here
  pub risen-same : (before : ℕ) (z : Zipper (Label I)) → stated z.here ≡ before → HasRisen least most before z → IsTTree least most (whole z)
  risen-same before z e k =
      let same : height z.here ≡ height k.was = sym (stated-height least most z.here k.here.fit) ∙ e ∙ k.was_high in
      fit-replaced least most z.above k.was z.here k.was_fit k.here.fit same (λ low. k.here.leaf low (same ∙ low))
