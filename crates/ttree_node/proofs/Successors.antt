-- What the steps from node to node in list order keep, and that they end.
use Rattle.std.proofs.Common.{◌≡◌, ℕ, ◌<◌, true, false, List, [], ◌∷◌, ◌++◌, length, refl, sym, ap, ◌∙◌, append_assoc, arith}
use Rattle.std.specs.Prelude.{Option}
use Rattle.ttree_node.specs.Tree.{Tree, empty, node, Frame, went_left, went_right, Zipper, Label, at, size, relabel_frames, has_left, has_right, is_root, down_left, down_right, up, list, list_after, list_behind, list_from}
use Rattle.ttree_node.specs.Linked.{Spot, side_of}
use Rattle.ttree_node.specs.Seen.{position_at}
use Rattle.ttree_node.specs.Order.{list_onward, last_side, nodes_after, nodes_behind, nodes_onward, nodes_from}
use Rattle.ttree_node.specs.declared.nodes.NodePlace.{NodePlace}
use Rattle.ttree_node.specs.declared.node.Node.{Node}
use Rattle.ttree_node.specs.declared.node.Side.TheVariants.{Root, Left, Right}
use Rattle.ttree_node.specs.declared.parts.Parts.{Parts}
use Rattle.ttree_node.proofs.Standing.{label}
use Rattle.ttree_node.proofs.Visit.{Visit}

side_seen_at : (c : List (Frame Spot)) → side_of c ≡ last_side (relabel_frames label c)
side_seen_at [] = refl
side_seen_at (went_left x r ∷ c) = refl
side_seen_at (went_right l x ∷ c) = refl

pub side_seen : {MAX : ℕ} (p : Parts MAX) (place : Option NodePlace) (n : Node MAX) → (v : Visit p place n) → n.head.side ≡ last_side (position_at p place).above
side_seen p place n v = (λ i. (v.node_is i).head.side) ∙ side_seen_at v.standing.above ∙ (λ i. last_side (sym v.position i).above)

-- a step down to the left keeps the list of the subtree and what is behind it
module _ {I : Type 0} where
  left_list_at : (c : List (Frame (Label I))) (t : Tree (Label I)) → has_left t ≡ true → list_onward (down_left (at c t)) ≡ list_onward (at c t)
  left_list_at c empty h = cc
  left_list_at c (node l x r) h = sym (append_assoc (list l) (x.items ++ list r) (list_after c) ∙ ap (λ zs. list l ++ zs) (append_assoc x.items (list r) (list_after c)))

  pub left_list : (z : Zipper (Label I)) → has_left z.here ≡ true → list_onward (down_left z) ≡ list_onward z
  left_list z h = left_list_at z.above z.here h

  -- and at its end the subtree begins with the node's own items
  first_list_at : (c : List (Frame (Label I))) (t : Tree (Label I)) → has_left t ≡ false → list_from 0 (at c t) ≡ list_onward (at c t)
  first_list_at c empty h = refl
  first_list_at c (node empty x r) h = sym (append_assoc x.items (list r) (list_after c))
  first_list_at c (node (node a y b) x r) h = cc

  pub first_list : (z : Zipper (Label I)) → has_left z.here ≡ false → list_from 0 z ≡ list_onward z
  first_list z h = first_list_at z.above z.here h

  -- the subtree on the right begins behind the node
  right_list_at : (c : List (Frame (Label I))) (t : Tree (Label I)) → has_right t ≡ true → list_onward (down_right (at c t)) ≡ list_behind (at c t)
  right_list_at c empty h = cc
  right_list_at c (node l x r) h = refl

  pub right_list : (z : Zipper (Label I)) → has_right z.here ≡ true → list_onward (down_right z) ≡ list_behind z
  right_list z h = right_list_at z.above z.here h

  -- where none is, only what is behind on the way up is left
  above_list_at : (c : List (Frame (Label I))) (t : Tree (Label I)) → has_right t ≡ false → list_after c ≡ list_behind (at c t)
  above_list_at c empty h = refl
  above_list_at c (node l x empty) h = refl
  above_list_at c (node l x (node a y b)) h = cc

  pub above_list : (z : Zipper (Label I)) → has_right z.here ≡ false → list_after z.above ≡ list_behind z
  above_list z h = above_list_at z.above z.here h

  -- a step up from the right keeps what is behind on the way up, and one from the left leads to it
  up_right_list_at : (c : List (Frame (Label I))) (t : Tree (Label I)) → last_side c ≡ Right → list_after (up (at c t)).above ≡ list_after c
  up_right_list_at [] t h = cc
  up_right_list_at (went_left x r ∷ c) t h = cc
  up_right_list_at (went_right l x ∷ c) t h = refl

  pub up_right_list : (z : Zipper (Label I)) → last_side z.above ≡ Right → list_after (up z).above ≡ list_after z.above
  up_right_list z h = up_right_list_at z.above z.here h

  up_left_list_at : (c : List (Frame (Label I))) (t : Tree (Label I)) → last_side c ≡ Left → list_from 0 (up (at c t)) ≡ list_after c
  up_left_list_at [] t h = cc
  up_left_list_at (went_left x r ∷ c) t h = refl
  up_left_list_at (went_right l x ∷ c) t h = cc

  pub up_left_list : (z : Zipper (Label I)) → last_side z.above ≡ Left → list_from 0 (up z) ≡ list_after z.above
  up_left_list z h = up_left_list_at z.above z.here h

  top_list_at : (c : List (Frame (Label I))) → last_side c ≡ Root → [] ≡ list_after c
  top_list_at [] h = refl
  top_list_at (went_left x r ∷ c) h = cc
  top_list_at (went_right l x ∷ c) h = cc

  pub top_list : (z : Zipper (Label I)) → last_side z.above ≡ Root → [] ≡ list_after z.above
  top_list z h = top_list_at z.above h

-- the same for the number of nodes
module _ {X : Type 0} where
  left_count_at : (c : List (Frame X)) (t : Tree X) → has_left t ≡ true → nodes_onward (down_left (at c t)) ≡ nodes_onward (at c t)
  left_count_at c empty h = cc
  left_count_at c (node l x r) h = omega arith

  pub left_count : (z : Zipper X) → has_left z.here ≡ true → nodes_onward (down_left z) ≡ nodes_onward z
  left_count z h = left_count_at z.above z.here h

  first_count_at : (c : List (Frame X)) (t : Tree X) → has_left t ≡ false → nodes_from (at c t) ≡ nodes_onward (at c t)
  first_count_at c empty h = refl
  first_count_at c (node empty x r) h = omega arith
  first_count_at c (node (node a y b) x r) h = cc

  pub first_count : (z : Zipper X) → has_left z.here ≡ false → nodes_from z ≡ nodes_onward z
  first_count z h = first_count_at z.above z.here h

  right_count_at : (c : List (Frame X)) (t : Tree X) → has_right t ≡ true → nodes_onward (down_right (at c t)) ≡ nodes_behind (at c t)
  right_count_at c empty h = cc
  right_count_at c (node l x r) h = refl

  pub right_count : (z : Zipper X) → has_right z.here ≡ true → nodes_onward (down_right z) ≡ nodes_behind z
  right_count z h = right_count_at z.above z.here h

  above_count_at : (c : List (Frame X)) (t : Tree X) → has_right t ≡ false → nodes_after c ≡ nodes_behind (at c t)
  above_count_at c empty h = omega arith
  above_count_at c (node l x empty) h = omega arith
  above_count_at c (node l x (node a y b)) h = cc

  pub above_count : (z : Zipper X) → has_right z.here ≡ false → nodes_after z.above ≡ nodes_behind z
  above_count z h = above_count_at z.above z.here h

  up_right_count_at : (c : List (Frame X)) (t : Tree X) → last_side c ≡ Right → nodes_after (up (at c t)).above ≡ nodes_after c
  up_right_count_at [] t h = cc
  up_right_count_at (went_left x r ∷ c) t h = cc
  up_right_count_at (went_right l x ∷ c) t h = refl

  pub up_right_count : (z : Zipper X) → last_side z.above ≡ Right → nodes_after (up z).above ≡ nodes_after z.above
  up_right_count z h = up_right_count_at z.above z.here h

  up_left_count_at : (c : List (Frame X)) (t : Tree X) → last_side c ≡ Left → nodes_from (up (at c t)) ≡ nodes_after c
  up_left_count_at [] t h = cc
  up_left_count_at (went_left x r ∷ c) t h = omega arith
  up_left_count_at (went_right l x ∷ c) t h = cc

  pub up_left_count : (z : Zipper X) → last_side z.above ≡ Left → nodes_from (up z) ≡ nodes_after z.above
  up_left_count z h = up_left_count_at z.above z.here h

  top_count_at : (c : List (Frame X)) → last_side c ≡ Root → 0 ≡ nodes_after c
  top_count_at [] h = refl
  top_count_at (went_left x r ∷ c) h = cc
  top_count_at (went_right l x ∷ c) h = cc

  pub top_count : (z : Zipper X) → last_side z.above ≡ Root → 0 ≡ nodes_after z.above
  top_count z h = top_count_at z.above h

  -- there is a node above where one stands on its left or on its right
  below_left_at : (c : List (Frame X)) → last_side c ≡ Left → is_root c ≡ false
  below_left_at [] h = cc
  below_left_at (went_left x r ∷ c) h = refl
  below_left_at (went_right l x ∷ c) h = refl

  pub below_left : (z : Zipper X) → last_side z.above ≡ Left → is_root z.above ≡ false
  below_left z h = below_left_at z.above h

  below_right_at : (c : List (Frame X)) → last_side c ≡ Right → is_root c ≡ false
  below_right_at [] h = cc
  below_right_at (went_left x r ∷ c) h = refl
  below_right_at (went_right l x ∷ c) h = refl

  pub below_right : (z : Zipper X) → last_side z.above ≡ Right → is_root z.above ≡ false
  below_right z h = below_right_at z.above h

  -- a step down makes the subtree smaller, and a step up the path shorter
  left_smaller_at : (c : List (Frame X)) (t : Tree X) → has_left t ≡ true → size (down_left (at c t)).here < size t
  left_smaller_at c empty h = cc
  left_smaller_at c (node l x r) h = omega arith

  pub left_smaller : (z : Zipper X) → has_left z.here ≡ true → size (down_left z).here < size z.here
  left_smaller z h = left_smaller_at z.above z.here h

  up_shorter_at : (c : List (Frame X)) (t : Tree X) → is_root c ≡ false → length (up (at c t)).above < length c
  up_shorter_at [] t h = cc
  up_shorter_at (f ∷ c) t h = omega arith

  pub up_shorter : (z : Zipper X) → is_root z.above ≡ false → length (up z).above < length z.above
  up_shorter z h = up_shorter_at z.above z.here h
