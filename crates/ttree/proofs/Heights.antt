-- How high a balanced tree can be, and how many nodes a tree can have.
use Rattle.std.proofs.Common.{◌≡◌, ℕ, zero, suc, ◌+◌, ◌<◌, ◌≤◌, length, ◌++◌, max, refl, ap, ◌∙◌, arith, inl, inr}
use Rattle.std.proofs.lemmas.List.{length-append}
use Rattle.std.proofs.lemmas.Bool.{cases_lt}
use Rattle.ttree_node.specs.Tree.{Tree, empty, node, Label, list, size, height}
use Rattle.ttree.specs.Shape.{fib, IsNear, HasTrueHeight, IsOccupied, IsFit, IsTTree, IsBalanced, HasTrueHeights, HasItems, HasItemsInEach, IsOccupiedThroughout}
use Rattle.ttree.proofs.EachNode.{each_map}

-- ---- the numbers of Fibonacci
fib-zero : fib 0 ≡ 0
unfolding fib
fib-zero = refl

fib-one : fib 1 ≡ 1
unfolding fib
fib-one = refl

fib-suc : (n : ℕ) → fib (suc (suc n)) ≡ fib (suc n) + fib n
unfolding fib
fib-suc n = refl

fib-next : (n : ℕ) → fib (n + 2) ≡ fib (n + 1) + fib n
fib-next n =
    let e : n + 2 ≡ suc (suc n) = omega arith in
    let f : suc n ≡ n + 1 = omega arith in
    ap fib e ∙ fib-suc n ∙ ap (λ k. fib k + fib n) f

fib-two : fib 2 ≡ 1
fib-two = omega (arith, fib-next 0, fib-zero, fib-one)

fib_once : (n : ℕ) → fib n ≤ fib (n + 1)
fib_once zero = omega (arith, fib-zero)
fib_once (suc n) =
    let e : suc n + 1 ≡ n + 2 = omega arith in
    let f : suc n ≡ n + 1 = omega arith in
    omega (arith, ap fib e, ap fib f, fib-next n)

fib-le : (n m : ℕ) → m ≤ n → fib m ≤ fib n
fib-le zero m l = let e : m ≡ 0 = omega arith in omega (arith, ap fib e)
fib-le (suc n) m l =
    elim (cases_lt n m) [
      | inl above ↦ let e : m ≡ suc n = omega arith in omega (arith, ap fib e)
      | inr within ↦ let f : n + 1 ≡ suc n = omega arith in omega (arith, fib-le n m within, fib_once n, ap fib f)
    ]

higher_left : (h k a b : ℕ) → k ≤ h → h ≤ 1 + k → fib (h + 2) ≤ a → fib (k + 2) ≤ b → fib (1 + max h k + 2) ≤ a + b
higher_left h k a b l r p q =
    let e : 1 + max h k + 2 ≡ h + 1 + 2 = omega arith in
    let f : h + 1 + 1 ≡ h + 2 = omega arith in
    omega (arith, ap fib e, fib-next (h + 1), ap fib f, fib-le (k + 2) (h + 1) (omega arith), p, q)

higher_right : (h k a b : ℕ) → h < k → k ≤ 1 + h → fib (h + 2) ≤ a → fib (k + 2) ≤ b → fib (1 + max h k + 2) ≤ a + b
higher_right h k a b l r p q =
    let e : 1 + max h k + 2 ≡ k + 1 + 2 = omega arith in
    let f : k + 1 + 1 ≡ k + 2 = omega arith in
    omega (arith, ap fib e, fib-next (k + 1), ap fib f, fib-le (h + 2) (k + 1) (omega arith), p, q)

module _ {I : Type 0} where
  -- a balanced tree without empty nodes holds at least so many items
  height_bound : (most : ℕ) (t : Tree (Label I)) → IsBalanced t → HasItemsInEach most t → fib (height t + 2) ≤ 1 + length (list t)
  height_bound most empty b h = omega (arith, fib-two)
  height_bound most (node l x r) b h =
      let p = height_bound most l b.0 h.0 in
      let q = height_bound most r b.2 h.2 in
      let n : length (list (node l x r)) ≡ length (list l) + (length x.items + length (list r)) = omega (arith, length-append (list l) (x.items ++ list r), length-append x.items (list r)) in
      let some : 0 < length x.items = h.1.0 in
      elim (cases_lt (height l) (height r)) [
        | inl above ↦ omega (arith, higher_right (height l) (height r) (1 + length (list l)) (1 + length (list r)) above b.1.1 p q, n, some)
        | inr within ↦ omega (arith, higher_left (height l) (height r) (1 + length (list l)) (1 + length (list r)) within b.1.0 p q, n, some)
      ]

  -- no node is empty, so there are no more nodes than items
  pub few_nodes : (most : ℕ) (t : Tree (Label I)) → HasItemsInEach most t → size t ≤ length (list t)
  few_nodes most empty h = omega arith
  few_nodes most (node l x r) h =
      omega (arith, few_nodes most l h.0, few_nodes most r h.2, h.1.0, length-append (list l) (x.items ++ list r), length-append x.items (list r))

  module _ (least most : ℕ) where
    -- ---- what a T-tree keeps to, apart
    pub balanced : (t : Tree (Label I)) → IsTTree least most t → IsBalanced t
    balanced t h = each_map (IsFit least most) IsNear (λ l x r k. k.near) t h

    pub true_heights : (t : Tree (Label I)) → IsTTree least most t → HasTrueHeights t
    true_heights t h = each_map (IsFit least most) HasTrueHeight (λ l x r k. k.true_height) t h

    pub occupied : (t : Tree (Label I)) → IsTTree least most t → IsOccupiedThroughout least t
    occupied t h = each_map (IsFit least most) (IsOccupied least) (λ l x r k. k.occupied) t h

    -- so its list bounds its height
    pub list_bound : (t : Tree (Label I)) → IsTTree least most t → fib (height t + 2) ≤ 1 + length (list t)
    list_bound t h = height_bound most t (balanced t h) (each_map (IsFit least most) (HasItems most) (λ l x r k. k.items) t h)
