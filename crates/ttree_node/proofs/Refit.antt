-- The link to a child is changed in the node above.
use Rattle.std.proofs.Common.{◌≡◌, ℕ, ◌+◌, ◌<◌, ◌≤◌, List, [], ◌∷◌, length, refl, sym, ◌∙◌, subst, arith}
use Rattle.std.specs.Prelude.{Option, IsSome}
use denote.RawPtr.{Ptr}
use Rattle.ttree_node.specs.Held.{node_at, update}
use Rattle.ttree_node.specs.Tree.{Tree, node, Frame, went_left, went_right, plug}
use Rattle.ttree_node.specs.Linked.{Spot, there, root_of, parent_of, side_of, occurs, occurs_above, Around, Present, with_link, linked_down, rooted}
use Rattle.ttree_node.specs.declared.nodes.NodePlace.{NodePlace}
use Rattle.ttree_node.specs.declared.node.Node.{Node}
use Rattle.ttree_node.specs.declared.node.Side.TheVariants.{Left, Right}
use Rattle.ttree_node.proofs.Maps.{update_same, update_other, update_length}
use Rattle.ttree_node.proofs.Shape.{differs, still_stands, still_around}
use Rattle.ttree_node.proofs.Changes.{root_below}

module _ {MAX : ℕ} where
  pub top_present : (m : List (Ptr × Node MAX)) (u : Option NodePlace) (c : List (Frame Spot)) → Around m u c → Present m (parent_of c)
  top_present m u [] a = tt
  top_present m u (went_left x t ∷ c) a = subst (λ o. IsSome o) (sym a.0) refl
  top_present m u (went_right t x ∷ c) a = subst (λ o. IsSome o) (sym a.0) refl

  pub refit : (m : List (Ptr × Node MAX)) (u v : Option NodePlace) (c : List (Frame Spot)) → ((o : Ptr) → occurs_above o c ≤ 1) → Around m u c → Around (linked_down (parent_of c) (side_of c) v m) v c
  refit m u v [] d a = tt
  refit m u v (went_left x t ∷ c) d a =
      let n = update x.place (with_link Left v) m in
      let far : (o : Ptr) → 0 < occurs o t + occurs_above o c → node_at o n ≡ node_at o m = λ o some. update_other x.place o (with_link Left v) m (differs o x.place (omega (arith, some, d o))) in
      (update_same x.place (with_link Left v) _ m a.0, still_stands m n (there x.place) Right t (λ o some. far o (omega (arith, some))) a.1, still_around m n (there x.place) c (λ o some. far o (omega (arith, some))) a.2)
  refit m u v (went_right t x ∷ c) d a =
      let n = update x.place (with_link Right v) m in
      let far : (o : Ptr) → 0 < occurs o t + occurs_above o c → node_at o n ≡ node_at o m = λ o some. update_other x.place o (with_link Right v) m (differs o x.place (omega (arith, some, d o))) in
      (update_same x.place (with_link Right v) _ m a.0, still_stands m n (there x.place) Left t (λ o some. far o (omega (arith, some))) a.1, still_around m n (there x.place) c (λ o some. far o (omega (arith, some))) a.2)

  -- what is not above stays
  pub refit_other : (m : List (Ptr × Node MAX)) (v : Option NodePlace) (c : List (Frame Spot)) (o : Ptr) → occurs_above o c ≡ 0 → node_at o (linked_down (parent_of c) (side_of c) v m) ≡ node_at o m
  refit_other m v [] o e = refl
  refit_other m v (went_left x t ∷ c) o e = update_other x.place o (with_link Left v) m (differs o x.place (omega (arith, e)))
  refit_other m v (went_right t x ∷ c) o e = update_other x.place o (with_link Right v) m (differs o x.place (omega (arith, e)))

  pub refit_length : (m : List (Ptr × Node MAX)) (v : Option NodePlace) (c : List (Frame Spot)) → length (linked_down (parent_of c) (side_of c) v m) ≡ length m
  refit_length m v [] = refl
  refit_length m v (went_left x t ∷ c) = update_length x.place (with_link Left v) m
  refit_length m v (went_right t x ∷ c) = update_length x.place (with_link Right v) m

pub refit_root : (c : List (Frame Spot)) (t u : Tree Spot) (old : Option NodePlace) → old ≡ root_of (plug c t) → rooted (parent_of c) (root_of u) old ≡ root_of (plug c u)
refit_root [] t u old e = refl
refit_root (went_left x r ∷ c) t u old e = e ∙ root_below c (node t x r) (node u x r) refl
refit_root (went_right l x ∷ c) t u old e = e ∙ root_below c (node l x t) (node l x u) refl
