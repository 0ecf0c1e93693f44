-- How many nodes a T-tree of so many items has at most, and how many inserts are sure of a node by that.
use Rattle.std.proofs.Common.{◌≡◌, ℕ, zero, suc, ◌+◌, ◌-◌, ◌*◌, ◌<◌, ◌≤◌, max, min, length, ◌++◌, refl, ap, arith, length-append, inl, inr}
use Rattle.std.proofs.Math.Nat.{mul-le-mul_left, mul-div-le}
use Rattle.std.proofs.lemmas.Bool.{cases_lt}
use Rattle.std.proofs.lemmas.Grind.{div_ceil_times}
use Rattle.std.specs.Int.{div_ceil}
use Rattle.ttree_node.specs.Tree.{Tree, empty, node, Label, list, size, height, items_of}
use Rattle.ttree.specs.Shape.{IsTTree}
use Rattle.ttree.specs.Room.{fewest_held, nodes_for}
use Rattle.ttree.proofs.Fitness.{in_numbers}

module _ {I : Type 0} (least most : ℕ) where
  -- a tree of no children has no more nodes than it is high
  low_size : (t : Tree (Label I)) → height t ≤ 1 → size t ≤ height t
  low_size empty h = omega arith
  low_size (node l x r) h = omega (arith, low_size l (omega (arith, h)), low_size r (omega (arith, h)), h)

  own_items : (t : Tree (Label I)) → length (items_of t) ≤ length (list t)
  own_items empty = omega arith
  own_items (node l x r) = omega (arith, length-append (list l) (x.items ++ list r), length-append x.items (list r))

  -- half of `least` for each node but one
  pub few_nodes : (t : Tree (Label I)) → IsTTree least most t → least * size t ≤ 2 * length (list t) + least
  few_nodes empty f = omega arith
  few_nodes (node empty x empty) f = omega arith
  few_nodes (node (node a y b) x empty) (lf, f, rf) =
      let l : Tree (Label I) = node a y b in
      let n = in_numbers least most l x empty f in
      let one : size l ≤ 1 = omega (arith, low_size l (omega (arith, n.left_near)), n.left_near) in
      let half : least + 1 ≤ length x.items + length (items_of l) = n.left_half (omega arith) (omega arith) in
      let all : length (list (node l x empty)) ≡ length (list l) + (length x.items + 0) = omega (arith, length-append (list l) (x.items ++ list empty), length-append x.items (list empty)) in
      omega (arith, mul-le-mul_left least one, half, own_items l, all)
  few_nodes (node empty x (node a y b)) (lf, f, rf) =
      let r : Tree (Label I) = node a y b in
      let n = in_numbers least most empty x r f in
      let one : size r ≤ 1 = omega (arith, low_size r (omega (arith, n.right_near)), n.right_near) in
      let half : least + 1 ≤ length x.items + length (items_of r) = n.right_half (omega arith) (omega arith) in
      let all : length (list (node empty x r)) ≡ length x.items + length (list r) = length-append x.items (list r) in
      omega (arith, mul-le-mul_left least one, half, own_items r, all)
  few_nodes (node (node a y b) x (node d z e)) (lf, f, rf) =
      let l : Tree (Label I) = node a y b in let r : Tree (Label I) = node d z e in
      let enough : least ≤ length x.items = (in_numbers least most l x r f).internal (omega arith) (omega arith) in
      let all : length (list (node l x r)) ≡ length (list l) + (length x.items + length (list r)) = omega (arith, length-append (list l) (x.items ++ list r), length-append x.items (list r)) in
      nodes_over (size l) (size r) (length (list l)) (length x.items) (length (list r)) (length (list (node l x r))) (few_nodes (node a y b) lf) (few_nodes (node d z e) rf) enough all
    where
      nodes_over : (m n i j k all : ℕ) → least * m ≤ 2 * i + least → least * n ≤ 2 * k + least → least ≤ j → all ≡ i + (j + k) → least * (1 + m + n) ≤ 2 * all + least
      nodes_over m n i j k all p q enough is = omega (arith, p, q, enough, is)

-- so many nodes, of which some are spare, hold fewer than these only where one is spare
held_at_least : (least nodes n : ℕ) → least * nodes ≤ 2 * n + least → fewest_held least nodes ≤ n
unfolding fewest_held
held_at_least least zero n h = omega (arith, mul-div-le 0 2)
held_at_least least (suc m) n h =
    let one_more : least * suc m ≡ least * (m + 1) = ap (λ k. least * k) (omega arith) in
    let but_one : least * (suc m - 1) ≡ least * m = ap (λ k. least * k) (omega arith) in
    omega (arith, h, one_more, but_one, mul-div-le (least * (suc m - 1)) 2)

-- where an insert is sure of a node, one is spare
pub spare_in_room : (least nodes spares n : ℕ) → least * nodes ≤ 2 * n + least → 0 < max spares (fewest_held least (nodes + spares) - n) → 0 < spares
spare_in_room least nodes zero n h room =
    let same : nodes + 0 ≡ nodes = omega arith in
    omega (arith, held_at_least least nodes n h, ap (fewest_held least) same, room)
spare_in_room least nodes (suc m) n h room = omega arith

-- where none is, an insert is sure of none
pub no_room : (least nodes spares n : ℕ) → least * nodes ≤ 2 * n + least → spares ≡ 0 → max spares (fewest_held least (nodes + spares) - n) ≡ 0
no_room least nodes spares n h none =
    let same : nodes + spares ≡ nodes = omega (arith, none) in
    omega (arith, held_at_least least nodes n h, ap (fewest_held least) same, none)

pub room_after_remove : (least nodes now spares left n kept : ℕ) → now ≡ nodes → spares ≤ left → kept + 1 ≡ n → max spares (fewest_held least nodes - n) ≤ max left (fewest_held least now - kept)
room_after_remove least nodes now spares left n kept same h one = omega (arith, h, one, ap (fewest_held least) same)

held_by_more : (least m n : ℕ) → m ≤ n → fewest_held least m ≤ fewest_held least n
unfolding fewest_held
held_by_more least m n h =
    let more : least * (m - 1) ≤ least * (n - 1) = mul-le-mul_left least (omega (arith, h)) in
    omega (arith, more, mul-div-le (least * (m - 1)) 2)

pub nodes_for_is : (least n : ℕ) → nodes_for least n ≡ 1 + div_ceil (2 * n) least
unfolding nodes_for
nodes_for_is least n = refl

-- so many nodes leave room for that many
held_by_enough : (least nodes n : ℕ) → 1 ≤ least → nodes_for least n ≤ nodes → n ≤ fewest_held least nodes
unfolding fewest_held
held_by_enough least nodes n some h =
    let whole : div_ceil (2 * n) least ≤ nodes - 1 = omega (arith, h, nodes_for_is least n) in
    let enough : 2 * n ≤ div_ceil (2 * n) least * least = (div_ceil_times (2 * n) least some).0 in
    let doubled : 2 * n ≤ least * (nodes - 1) = omega (arith, enough, mul-le-mul_left least whole) in
    omega (arith, doubled)

-- the spare nodes that a reserve adds leave room for n more, and no less than there was
module _ (least tree now spares left held kept : ℕ) (same_tree : now ≡ tree) (same_held : kept ≡ held) where
  pub room_reserved : (n more : ℕ) → 1 ≤ least → more ≡ min (n - spares) (nodes_for least (held + n) - (tree + spares)) → left ≡ spares + more → n ≤ max left (fewest_held least (now + left) - kept)
  room_reserved n more some is added =
      elim (cases_lt left n) [
        | inl short ↦
            let e : kept + n ≡ held + n = omega (arith, same_held) in
            let enough : nodes_for least (kept + n) ≤ now + left = omega (arith, is, added, short, same_tree, ap (nodes_for least) e) in
            omega (arith, held_by_enough least (now + left) (kept + n) some enough)
        | inr long ↦ omega (arith, long)
      ]

  pub room_grows : spares ≤ left → max spares (fewest_held least (tree + spares) - held) ≤ max left (fewest_held least (now + left) - kept)
  room_grows more = omega (arith, held_by_more least (tree + spares) (now + left) (omega (arith, same_tree, more)), more, same_held)
