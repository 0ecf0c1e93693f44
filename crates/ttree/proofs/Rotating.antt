-- A rotation with its slide.
use Rattle.std.proofs.Common.{◌≡◌, ℕ, ◌<◌, ◌≤◌, refl, sym, subst, arith}
use Rattle.ttree_node.specs.Tree.{Tree, Label, height, left_of, right_of, stated}
use Rattle.ttree_node.specs.Seen.{child, opposite}
use Rattle.ttree_node.specs.declared.node.Side.{Side}
use Rattle.ttree_node.specs.declared.node.Side.TheVariants.{Root, Left, Right}
use Rattle.ttree.specs.Rising.{Leans, IsFilled, IsInnerFilled, IsMendedTo, with_child, outer_turned, inner_turned}
use Rattle.ttree.proofs.Leaning.{leans-with_child, height-with_child, mends-with_child, children_stated}
use Rattle.ttree.proofs.Turning.{outer-mends, inner-mends}

module _ {I : Type 0} where
  pub same_on : (side : Side) (t u : Tree (Label I)) → height (left_of u) ≡ height (left_of t) → height (right_of u) ≡ height (right_of t) → height (child side u) ≡ height (child side t)
  same_on Root t u l r = refl
  same_on Left t u l r = l
  same_on Right t u l r = r

module _ {I : Type 0} (least most : ℕ) where
  pub outer-rotated : (side : Side) (t u : Tree (Label I)) → Leans side least most t → u ≡ with_child side (child side u) t → IsFilled least most (child side t) (child side u)
      → stated (child (opposite side) (child side t)) ≤ stated (child side (child side t)) → height t < 4294967295 → IsMendedTo least most t (outer_turned side u)
  outer-rotated side t u k rest f order low =
      let b : Tree (Label I) = child side t in let b' : Tree (Label I) = child side u in
      let tall : height (with_child side b' t) ≡ height t = height-with_child least most side t b' f.same in
      let leans : Leans side least most u = subst (λ v. Leans side least most v) (sym rest) (leans-with_child least most side t b' k f.fit f.left f.right f.same) in
      let outer : height (child side b') ≡ height (child side b) = same_on side b b' f.left f.right in
      let inner : height (child (opposite side) b') ≡ height (child (opposite side) b) = same_on (opposite side) b b' f.left f.right in
      let so = children_stated least most side b k.high_fit in let si = children_stated least most (opposite side) b k.high_fit in
      let same : height u ≡ height t = subst (λ v. height v ≡ height t) (sym rest) tall in
      let m : IsMendedTo least most u (outer_turned side u) = outer-mends least most side u leans (omega (arith, outer, inner, so, si, order)) (f.enough (omega (arith, k.high))) (omega (arith, same, low)) in
      mends-with_child least most side t b' (outer_turned side u) k f.same f.nodes (subst (λ v. IsMendedTo least most v (outer_turned side u)) rest m)

  pub inner_high : (side : Side) (t : Tree (Label I)) → Leans side least most t → (stated (child (opposite side) (child side t)) ≤ stated (child side (child side t)) → ⊥)
      → height (child side (child side t)) < height (child (opposite side) (child side t))
  inner_high side t k order =
      let so = children_stated least most side (child side t) k.high_fit in let si = children_stated least most (opposite side) (child side t) k.high_fit in
      omega (arith, so, si, order)

  pub inner-rotated : (side : Side) (t u : Tree (Label I)) → Leans side least most t → u ≡ with_child side (child side u) t → IsInnerFilled (opposite side) least most (child side t) (child side u)
      → height (child side (child side t)) < height (child (opposite side) (child side t)) → height t < 4294967295 → IsMendedTo least most t (inner_turned side u)
  inner-rotated side t u k rest f order low =
      let b : Tree (Label I) = child side t in let b' : Tree (Label I) = child side u in
      let tall : height (with_child side b' t) ≡ height t = height-with_child least most side t b' f.same in
      let leans : Leans side least most u = subst (λ v. Leans side least most v) (sym rest) (leans-with_child least most side t b' k f.fit f.left f.right f.same) in
      let outer : height (child side b') ≡ height (child side b) = same_on side b b' f.left f.right in
      let inner : height (child (opposite side) b') ≡ height (child (opposite side) b) = same_on (opposite side) b b' f.left f.right in
      let same : height u ≡ height t = subst (λ v. height v ≡ height t) (sym rest) tall in
      let m : IsMendedTo least most u (inner_turned side u) = inner-mends least most side u leans (omega (arith, outer, inner, order)) f.enough (omega (arith, same, low)) in
      mends-with_child least most side t b' (inner_turned side u) k f.same f.nodes (subst (λ v. IsMendedTo least most v (inner_turned side u)) rest m)
