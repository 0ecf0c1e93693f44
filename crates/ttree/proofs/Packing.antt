-- A tree that is built from below: how its nodes are shared out between a node and its two sides, and what that makes of the whole.
use Rattle.std.proofs.Common.{◌≡◌, ℕ, ◌+◌, ◌-◌, ◌*◌, ◌/◌, ◌^◌, ◌<◌, ◌≤◌, min, max, length, true, false, refl, sym, ap, ◌∙◌, subst, List, [], ◌∷◌, ◌++◌, arith, length-append, inl, inr}
use Rattle.std.proofs.Math.Nat.{mul-le-mul_right}
use Rattle.std.proofs.lemmas.Bool.{cases_lt}
use Rattle.std.proofs.lemmas.Grind.{div_ceil_times}
use Rattle.std.specs.Int.{div_ceil}
use Rattle.ttree_node.specs.Tree.{Tree, empty, node, Label, Frame, Zipper, at, up, size, height, list, is_node, stated, left_of, right_of, new_height, height_over}
use Rattle.ttree_node.specs.Seen.{child, on_side, hangs_on_node}
use Rattle.ttree_node.specs.declared.node.Side.{Side}
use Rattle.ttree_node.specs.declared.node.Side.TheVariants.{Root, Left, Right}
use Rattle.ttree.specs.Shape.{HasItemsInEach, binary_digits}
use Rattle.ttree.specs.Rising.{with_child}
use Rattle.ttree.specs.Packing.{AreFull, HoldsPacked, IsMiddle}
use Rattle.ttree.proofs.Digits.{digits-le, digits-next, digits-zero}
use Rattle.ttree.proofs.Ends.{items_in_each}
use Rattle.ttree.proofs.Fitness.{from_numbers, stated-height, some_items, node_high, high_node}
use Rattle.ttree.proofs.HeightBound.{height-short}
use Rattle.ttree.proofs.Heights.{few_nodes}

-- ---- in numbers

not_more : (a b d : ℕ) → 0 < d → a * d < b * d + d → a ≤ b
not_more a b d some h =
    elim (cases_lt b a) [
      | inl more ↦ let over : (b + 1) * d ≤ a * d = mul-le-mul_right d (omega (arith, more)) in absurd (omega (arith, over, h))
      | inr within ↦ within
    ]

-- so many groups of d hold n, and one fewer don't
pub only_ceil : (n d a : ℕ) → 0 < d → n ≤ a * d → a * d < n + d → div_ceil n d ≡ a
only_ceil n d a some enough few =
    let is = div_ceil_times n d some in
    let over : div_ceil n d ≤ a = not_more (div_ceil n d) a d some (omega (arith, is.1, enough)) in
    let under : a ≤ div_ceil n d = not_more a (div_ceil n d) d some (omega (arith, is.0, few)) in
    omega (arith, over, under)

-- n items go in `nodes` nodes: the half of the others that stand before the middle one are full, it is full where any stand behind it, and the rest hold what is left
pub record Shares (n d nodes left right : ℕ) : Type 0 where
  pub few : nodes ≡ div_ceil n d
  pub parts : nodes ≡ 1 + left + right
  pub half : left ≡ (nodes - 1) / 2
  pub within : left * d < n
  pub full : div_ceil (left * d) d ≡ left
  pub rest : div_ceil (n - left * d - min d (n - left * d)) d ≡ right

pub shared : (n d : ℕ) → 0 < d → 0 < n → Shares n d (div_ceil n d) ((div_ceil n d - 1) / 2) (div_ceil n d - 1 - (div_ceil n d - 1) / 2)
shared n d some any =
    let nodes = div_ceil n d in
    let is = div_ceil_times n d some in
    let enough : n ≤ nodes * d = is.0 in
    let few : nodes * d < n + d = is.1 in
    let one : 0 < nodes = (elim (cases_lt 0 nodes) [ inl more ↦ more | inr none ↦ let zero : nodes * d ≤ 0 * d = mul-le-mul_right d none in absurd (omega (arith, zero, enough, any)) ]) in
    let left = (nodes - 1) / 2 in
    let right = nodes - 1 - left in
    let parts : nodes ≡ 1 + left + right = omega (arith, one) in
    let all : nodes * d ≡ (1 + left + right) * d = ap (λ k. k * d) parts in
    let before : left * d < n = omega (arith, all, few) in
    record {
      few = refl;
      parts = parts;
      half = refl;
      within = before;
      full = only_ceil (left * d) d left some (omega arith) (omega (arith, some));
      rest = only_ceil (n - left * d - min d (n - left * d)) d right some (omega (arith, all, enough)) (omega (arith, all, few, some, before));
    }

pub middle : {I : Type 0} (d : ℕ) (items left rest own right : List I) → 2 ≤ d → 0 < length items → items ≡ left ++ rest → rest ≡ own ++ right
    → length left ≡ (div_ceil (length items) d - 1) / 2 * d → length own ≡ min d (length rest) → IsMiddle d items left own right
middle d items left rest own right two any whole behind before taken =
    let n = length items in
    let s = shared n d (omega (arith, two)) any in
    let l = (div_ceil n d - 1) / 2 in
    let r = div_ceil n d - 1 - (div_ceil n d - 1) / 2 in
    let all : n ≡ length left + length rest = ap length whole ∙ length-append left rest in
    let part : length rest ≡ length own + length right = ap length behind ∙ length-append own right in
    let last : length right ≡ n - l * d - min d (n - l * d) = omega (arith, all, part, before, taken) in
    let nodes_l : div_ceil (length left) d ≡ l = ap (λ k. div_ceil k d) before ∙ s.full in
    let nodes_r : div_ceil (length right) d ≡ r = ap (λ k. div_ceil k d) last ∙ s.rest in
    record {
      joined = whole ∙ ap (λ xs. left ++ xs) behind;
      some = omega (arith, all, before, taken, s.within, two);
      room = omega (arith, taken);
      full = λ more. omega (arith, part, taken, more);
      before = before ∙ ap (λ k. k * d) (sym nodes_l);
      fewer = omega (arith, nodes_l, nodes_r, s.parts);
      even = omega (arith, nodes_l, nodes_r, s.parts);
      nodes = omega (arith, nodes_l, nodes_r, s.parts);
    }

-- the middle one stands between trees of nearly one height, and above them the whole is as low as it can be
record Balances (nodes left right : ℕ) : Type 0 where
  left_near : binary_digits left ≤ 1 + binary_digits right
  right_near : binary_digits right ≤ 1 + binary_digits left
  low : binary_digits nodes ≡ 1 + max (binary_digits left) (binary_digits right)

balanced_halves : (nodes left right : ℕ) → nodes ≡ 1 + left + right → left ≤ right → right ≤ 1 + left → Balances nodes left right
balanced_halves nodes left right parts fewer even =
    let other : nodes / 2 ≡ right = omega (arith, parts, fewer, even) in
    let next : binary_digits nodes ≡ 1 + binary_digits right = digits-next nodes (omega (arith, parts)) ∙ ap (λ k. 1 + binary_digits k) other in
    let more : binary_digits left ≤ binary_digits right = digits-le left right fewer in
    record {
      left_near = omega (arith, more);
      right_near = elim (cases_lt 0 right) [
        | inl some ↦ let below : binary_digits (right / 2) ≤ binary_digits left = digits-le (right / 2) left (omega (arith, even, some)) in omega (arith, digits-next right some, below)
        | inr none ↦ let zero : right ≡ 0 = omega (arith, none) in omega (arith, ap binary_digits zero, digits-zero)
      ];
      low = omega (arith, next, more);
    }

module _ {I : Type 0} (least most : ℕ) where
  -- ---- what the nodes hold

  length_list : (l : Tree (Label I)) (x : Label I) (r : Tree (Label I)) → length (list (node l x r)) ≡ length (list l) + (length x.items + length (list r))
  length_list l x r = omega (arith, length-append (list l) (x.items ++ list r), length-append x.items (list r))

  at_most : (t : Tree (Label I)) → HasItemsInEach most t → length (list t) ≤ size t * most
  at_most empty h = omega arith
  at_most (node l x r) h = omega (arith, at_most l h.0, at_most r h.2, h.1.1, length_list l x r)

  -- nodes that hold as much as they can are full
  all_full : (t : Tree (Label I)) → HasItemsInEach most t → size t * most ≤ length (list t) → AreFull most t
  all_full empty h full = tt
  all_full (node l x r) h full =
      let over = at_most l h.0 in let under = at_most r h.2 in let all = length_list l x r in
      (all_full l h.0 (omega (arith, over, under, all, full, h.1.1)), omega (arith, over, under, all, full, h.1.1), all_full r h.2 (omega (arith, over, under, all, full, h.1.1)))

  node_size : (t : Tree (Label I)) → is_node t ≡ true → 0 < size t
  node_size empty e = cc
  node_size (node l x r) e = omega arith

  size_node : (t : Tree (Label I)) → 0 < size t → is_node t ≡ true
  size_node empty h = absurd (omega (arith, h))
  size_node (node l x r) h = refl

  -- ---- no item
  pub holds_none : 0 < most → HoldsPacked {I = I} least most [] empty
  holds_none some = record {
    fit = tt;
    list = refl;
    packed = record { full = tt; parents = tt; few = sym (only_ceil 0 most 0 some (omega arith) (omega (arith, some))); low = sym digits-zero };
  }

  pub holds_nothing : (xs : List I) (t : Tree (Label I)) → 0 < most → length xs ≡ 0 → is_node t ≡ false → HoldsPacked least most xs t
  holds_nothing [] empty some none off = holds_none some
  holds_nothing [] (node l x r) some none off = cc
  holds_nothing (y ∷ ys) t some none off = absurd (omega (arith, none))

  -- ---- the middle node between its two sides
  module _ (ordered : least ≤ most) (two : 2 ≤ most) where
    pub holds_node : (items xs ys zs : List I) (l : Tree (Label I)) (x : Label I) (r : Tree (Label I)) → IsMiddle most items xs ys zs → HoldsPacked least most xs l → x.items ≡ ys → HoldsPacked least most zs r
        → length items ≤ 2 ^ 32 → x.height ≡ min (1 + max (stated l) (stated r)) 4294967295 → HoldsPacked least most items (node l x r)
    holds_node items xs ys zs l x r m lh own rh short h =
        let left = div_ceil (length xs) most in
        let right = div_ceil (length zs) most in
        let in_left : length (list l) ≡ length xs = ap length lh.list in
        let in_right : length (list r) ≡ length zs = ap length rh.list in
        let in_node : length x.items ≡ length ys = ap length own in
        let together : length items ≡ length xs + (length ys + length zs) = omega (arith, ap length m.joined, length-append xs (ys ++ zs), length-append ys zs) in
        let size_l : size l ≡ left = lh.packed.few ∙ ap (λ k. div_ceil k most) in_left in
        let size_r : size r ≡ right = rh.packed.few ∙ ap (λ k. div_ceil k most) in_right in
        let height_l : height l ≡ binary_digits left = lh.packed.low ∙ ap binary_digits size_l in
        let height_r : height r ≡ binary_digits right = rh.packed.low ∙ ap binary_digits size_r in
        let near = balanced_halves (div_ceil (length items) most) left right m.nodes m.fewer m.even in
        let items_l = items_in_each least most l lh.fit in
        let items_r = items_in_each least most r rh.fit in
        let full : is_node r ≡ true → most ≤ length x.items = λ is. omega (arith, m.full (omega (arith, node_size r is, few_nodes most r items_r, in_right)), in_node) in
        let right_too : is_node l ≡ true → is_node r ≡ true = λ is. size_node r (omega (arith, node_size l is, size_l, size_r, m.fewer)) in
        let all : 1 + size l + size r ≡ div_ceil (length items) most = omega (arith, size_l, size_r, m.nodes) in
        record {
          fit = (
            lh.fit,
            from_numbers least most l x r (record {
              left_near = omega (arith, height_l, height_r, near.left_near);
              right_near = omega (arith, height_l, height_r, near.right_near);
              true_height =
                  omega (arith, h, stated-height least most l lh.fit, stated-height least most r rh.fit, (height-short least most l lh.fit).0, (height-short least most r rh.fit).0, in_left, in_right, together, short);
              some = omega (arith, m.some, in_node);
              room = omega (arith, in_node, m.room);
              internal = λ a b. omega (arith, ordered, full (high_node r b));
              left_half = λ a b. absurd (omega (arith, node_high r (right_too (high_node l a)), b));
              right_half = λ a b. omega (arith, ordered, full (high_node r b), some_items least most r rh.fit b);
            }),
            rh.fit,
          );
          list = (λ i. lh.list i ++ (own i ++ rh.list i)) ∙ sym m.joined;
          packed = record {
            full = (all_full l items_l (omega (arith, in_left, m.before, ap (λ k. k * most) size_l)), full, rh.packed.full);
            parents = (lh.packed.parents, record { left = λ is. full (right_too is); right = full }, rh.packed.parents);
            few = all ∙ ap (λ k. div_ceil k most) (omega (arith, length_list l x r, in_left, in_right, in_node, together));
            low = omega (arith, height_l, height_r, near.low, ap binary_digits all);
          };
        }

    -- the node that was hung as a leaf, once its sides are hung and its height is stated
    pub holds_built : (items xs ys zs : List I) (z0 z1 z2 : Tree (Label I)) → IsMiddle most items xs ys zs → length items ≤ 2 ^ 32
        → z0 ≡ node empty (record { items = ys; height = 1 }) empty → z1 ≡ with_child Left (left_of z1) z0 → z2 ≡ with_child Right (right_of z2) z1
        → HoldsPacked least most xs (left_of z1) → HoldsPacked least most zs (right_of z2) → HoldsPacked least most items (new_height (height_over z2) z2)
    holds_built items xs ys zs z0 z1 z2 m short e0 e1 e2 lh rh =
        let leaf : Label I = record { items = ys; height = 1 } in
        let f1 : z1 ≡ node (left_of z1) leaf empty = e1 ∙ ap (with_child Left (left_of z1)) e0 in
        let f2 : z2 ≡ node (left_of z1) leaf (right_of z2) = e2 ∙ ap (with_child Right (right_of z2)) f1 in
        let u : Tree (Label I) = node (left_of z1) leaf (right_of z2) in
        subst (λ t. HoldsPacked least most items (new_height (height_over t) t)) (sym f2)
        (holds_node items xs ys zs (left_of z1) (record { items = ys; height = height_over u }) (right_of z2) m lh refl rh short refl)

module _ {I : Type 0} where
  -- ---- a tree that is hung on a side of a node
  up_hung_at : (side : Side) (c : List (Frame (Label I))) (t u : Tree (Label I)) → hangs_on_node side ≡ true → is_node t ≡ true → up (at (on_side side (at c t)).above u) ≡ at c (with_child side u t)
  up_hung_at Root c t u s n = cc
  up_hung_at Left c empty u s n = cc
  up_hung_at Left c (node l x r) u s n = refl
  up_hung_at Right c empty u s n = cc
  up_hung_at Right c (node l x r) u s n = refl

  -- from its root the way up leads to that node
  pub up_hung : (side : Side) (z w : Zipper (Label I)) → hangs_on_node side ≡ true → is_node z.here ≡ true → w.above ≡ (on_side side z).above → up w ≡ at z.above (with_child side w.here z.here)
  up_hung side z w s n e = ap (λ c. up (at c w.here)) e ∙ up_hung_at side z.above z.here w.here s n

  pub child_hung : (side : Side) (u t : Tree (Label I)) → hangs_on_node side ≡ true → is_node t ≡ true → child side (with_child side u t) ≡ u
  child_hung Root u t s n = cc
  child_hung Left u empty s n = cc
  child_hung Left u (node l x r) s n = refl
  child_hung Right u empty s n = cc
  child_hung Right u (node l x r) s n = refl
