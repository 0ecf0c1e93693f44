-- A walk down and up a tree ends.
use Rattle.std.proofs.Common.{◌≡◌, ℕ, ◌+◌, ◌-◌, ◌*◌, ◌<◌, ◌≤◌, true, false, List, [], ◌∷◌, length, ap, arith}
use Rattle.ttree_node.specs.Tree.{Tree, empty, node, Frame, went_left, went_right, Zipper, at, size, plug, whole, is_leaf, has_left, has_right, down_left, down_right, left_below, right_below, without_leaf}

module _ {X : Type 0} where
  pub deep : (c : List (Frame X)) (t : Tree X) → length c + size t ≤ size (plug c t)
  deep [] t = omega arith
  deep (went_left x r ∷ c) t = omega (arith, deep c (node t x r))
  deep (went_right l x ∷ c) t = omega (arith, deep c (node l x t))

  abbrev pub to_do : Tree X → Zipper X → ℕ
  to_do t z = 2 * size t - length z.above

  left_at : (c : List (Frame X)) (u : Tree X) (t : Tree X) → t ≡ plug c u → has_left u ≡ true → 2 * size t - length (left_below c u).above < 2 * size t - length c
  left_at c empty t e h = cc
  left_at c (node l x r) t e h = omega (arith, deep c (node l x r), ap (λ (u : Tree X). size u) e)

  pub left_less : (t : Tree X) (z : Zipper X) → t ≡ whole z → has_left z.here ≡ true → to_do t (down_left z) < to_do t z
  left_less t z e h = left_at z.above z.here t e h

  right_at : (c : List (Frame X)) (u : Tree X) (t : Tree X) → t ≡ plug c u → has_right u ≡ true → 2 * size t - length (right_below c u).above < 2 * size t - length c
  right_at c empty t e h = cc
  right_at c (node l x r) t e h = omega (arith, deep c (node l x r), ap (λ (u : Tree X). size u) e)

  pub right_less : (t : Tree X) (z : Zipper X) → t ≡ whole z → has_right z.here ≡ true → to_do t (down_right z) < to_do t z
  right_less t z e h = right_at z.above z.here t e h

  size_plug_more : (c : List (Frame X)) (t u : Tree X) → size t ≡ 1 + size u → size (plug c t) ≡ 1 + size (plug c u)
  size_plug_more [] t u h = h
  size_plug_more (went_left x r ∷ c) t u h = size_plug_more c (node t x r) (node u x r) (omega (arith, h))
  size_plug_more (went_right l x ∷ c) t u h = size_plug_more c (node l x t) (node l x u) (omega (arith, h))

  drop_at : (c : List (Frame X)) (u : Tree X) (t s : Tree X) → t ≡ plug c u → s ≡ whole (without_leaf (at c u)) → is_leaf u → 2 * size s - length (without_leaf (at c u)).above < 2 * size t - length c
  drop_at c empty t s e f h = let k : false ≡ true = h.0 in cc
  drop_at c (node (node a y b) x r) t s e f h = let k : true ≡ false = h.1 in cc
  drop_at c (node empty x (node a y b)) t s e f h = let k : true ≡ false = h.2 in cc
  drop_at [] (node empty x empty) t s e f h = omega (arith, ap (λ (u : Tree X). size u) e, ap (λ (u : Tree X). size u) f)
  drop_at (went_left y r ∷ c) (node empty x empty) t s e f h =
      omega (arith, ap (λ (u : Tree X). size u) e, ap (λ (u : Tree X). size u) f, deep c (node empty y r), size_plug_more c (node (node empty x empty) y r) (node empty y r) (omega arith))
  drop_at (went_right l y ∷ c) (node empty x empty) t s e f h =
      omega (arith, ap (λ (u : Tree X). size u) e, ap (λ (u : Tree X). size u) f, deep c (node l y empty), size_plug_more c (node l y (node empty x empty)) (node l y empty) (omega arith))

  pub drop_less : (t s : Tree X) (z : Zipper X) → t ≡ whole z → s ≡ whole (without_leaf z) → is_leaf z.here → to_do s (without_leaf z) < to_do t z
  drop_less t s z e f h = drop_at z.above z.here t s e f h
