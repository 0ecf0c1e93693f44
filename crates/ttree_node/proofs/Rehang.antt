-- A subtree hangs on another node.
use Rattle.std.proofs.Common.{◌≡◌, ℕ, ◌+◌, ◌<◌, ◌≤◌, true, false, cond, List, [], ◌∷◌, length, refl, sym, subst, arith}
use Rattle.std.specs.Prelude.{Option, Some, None, IsSome}
use denote.RawPtr.{Ptr}
use Rattle.ttree_node.specs.Held.{same_place, node_at, update}
use Rattle.ttree_node.specs.Tree.{Tree, empty, node}
use Rattle.ttree_node.specs.Linked.{Spot, there, root_of, occurs, Stands, Present, with_link, with_parent, linked_down, linked_up, hung}
use Rattle.ttree_node.specs.declared.nodes.NodePlace.{NodePlace}
use Rattle.ttree_node.specs.declared.node.Node.{Node}
use Rattle.ttree_node.specs.declared.node.Side.{Side}
use Rattle.ttree_node.specs.declared.node.Side.TheVariants.{Left, Right}
use Rattle.ttree_node.proofs.Maps.{update_same, update_other, update_length}
use Rattle.ttree_node.proofs.Shape.{differs, still_stands}

kept_update : {X : Type 0} (p q : Ptr) (f : X → X) (m : List (Ptr × X)) → IsSome (node_at p m) → IsSome (node_at p (update q f m))
kept_update p q f [] h = h
kept_update p q f (e ∷ m) h = (elim (same_place q e.0) as (λ s. IsSome (node_at p (cond s ((e.0, f e.1) ∷ m) (e ∷ update q f m)))) [
  | true ↦ (elim (same_place p e.0) as (λ t. IsSome (cond t (Some e.1) (node_at p m)) → IsSome (cond t (Some (f e.1)) (node_at p m))) [ true ↦ λ _. refl | false ↦ λ r. r ]) h
  | false ↦ (elim (same_place p e.0) as (λ t. IsSome (cond t (Some e.1) (node_at p m)) → IsSome (cond t (Some e.1) (node_at p (update q f m)))) [ true ↦ λ r. r | false ↦ λ r. kept_update p q f m r ]) h
])

module _ {MAX : ℕ} where
  up_present : (m : List (Ptr × Node MAX)) (q par : Option NodePlace) (s : Side) (o : Option NodePlace) → Present m o → Present (linked_up q par s m) o
  up_present m None par s o h = h
  up_present m (Some q) par s None h = tt
  up_present m (Some q) par s (Some p) h = kept_update p.at q.at (with_parent par s) m h

  pub down_present : (m : List (Ptr × Node MAX)) (par : Option NodePlace) (s : Side) (q o : Option NodePlace) → Present m o → Present (linked_down par s q m) o
  down_present m None s q o h = h
  down_present m (Some p) s q None h = tt
  down_present m (Some p) s q (Some r) h = kept_update r.at p.at (with_link s q) m h

  pub hung_present : (m : List (Ptr × Node MAX)) (q par : Option NodePlace) (s : Side) (o : Option NodePlace) → Present m o → Present (hung q par s m) o
  hung_present m q par s o h = up_present (linked_down par s q m) q par s o (down_present m par s q o h)

  pub stands_present : (m : List (Ptr × Node MAX)) (par : Option NodePlace) (s : Side) (t : Tree Spot) → Stands m par s t → Present m (root_of t)
  stands_present m par s empty h = tt
  stands_present m par s (node l x r) h = subst (λ o. IsSome o) (sym h.0) refl

  pub rehung : (m : List (Ptr × Node MAX)) (par par' : Option NodePlace) (s s' : Side) (t : Tree Spot) → ((o : Ptr) → occurs o t ≤ 1) → Stands m par s t → Stands (linked_up (root_of t) par' s' m) par' s' t
  rehung m par par' s s' empty d h = tt
  rehung m par par' s s' (node l x r) d h =
      let f = with_parent par' s' in let n = update x.place f m in
      let far : (o : Ptr) → 0 < occurs o l + occurs o r → node_at o n ≡ node_at o m = λ o some. update_other x.place o f m (differs o x.place (omega (arith, some, d o))) in
      (update_same x.place f _ m h.0, still_stands m n (there x.place) Left l (λ o some. far o (omega (arith, some))) h.1, still_stands m n (there x.place) Right r (λ o some. far o (omega (arith, some))) h.2)

  pub rehung_other : (m : List (Ptr × Node MAX)) (par' : Option NodePlace) (s' : Side) (t : Tree Spot) (o : Ptr) → occurs o t ≡ 0 → node_at o (linked_up (root_of t) par' s' m) ≡ node_at o m
  rehung_other m par' s' empty o e = refl
  rehung_other m par' s' (node l x r) o e = update_other x.place o (with_parent par' s') m (differs o x.place (omega (arith, e)))

  pub rehung_length : (m : List (Ptr × Node MAX)) (par' : Option NodePlace) (s' : Side) (t : Tree Spot) → length (linked_up (root_of t) par' s' m) ≡ length m
  rehung_length m par' s' empty = refl
  rehung_length m par' s' (node l x r) = update_length x.place (with_parent par' s') m
