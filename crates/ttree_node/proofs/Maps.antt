-- What a look-up finds after a change of the set.
use Rattle.std.proofs.Common.{◌≡◌, ◌+◌, true, false, cond, suc, List, [], ◌∷◌, length, refl, sym, ◌∙◌, subst, arith}
use Rattle.std.specs.Prelude.{Some, IsSome}
use denote.RawPtr.{Ptr}
use Rattle.ttree_node.specs.Held.{same_place, node_at, set_node, update, without}
use Rattle.ttree_node.proofs.Cuts.{same_place_eq}

module _ {X : Type 0} where
  pub set_by : (p : Ptr) (f : X → X) (v : X) (m : List (Ptr × X)) → node_at p m ≡ Some v → set_node p (f v) m ≡ update p f m
  set_by p f v [] e = refl
  set_by p f v (e ∷ m) h = (elim (same_place p e.0) as (λ s. cond s (Some e.1) (node_at p m) ≡ Some v → cond s ((e.0, f v) ∷ m) (e ∷ set_node p (f v) m) ≡ cond s ((e.0, f e.1) ∷ m) (e ∷ update p f m)) [
    | true ↦ λ here. let same : v ≡ e.1 = cc in λ i. (e.0, f (same i)) ∷ m
    | false ↦ λ rest. λ i. e ∷ set_by p f v m rest i
  ]) h

  pub set_is_update : (p : Ptr) (w : X) (m : List (Ptr × X)) → set_node p w m ≡ update p (λ _. w) m
  set_is_update p w [] = refl
  set_is_update p w (e ∷ m) = λ i. cond (same_place p e.0) ((e.0, w) ∷ m) (e ∷ set_is_update p w m i)

  pub update_same : (p : Ptr) (f : X → X) (v : X) (m : List (Ptr × X)) → node_at p m ≡ Some v → node_at p (update p f m) ≡ Some (f v)
  update_same p f v [] e = cc
  update_same p f v (e ∷ m) h = (elim (same_place p e.0) as (λ s. same_place p e.0 ≡ s → cond s (Some e.1) (node_at p m) ≡ Some v → node_at p (cond s ((e.0, f e.1) ∷ m) (e ∷ update p f m)) ≡ Some (f v)) [
    | true ↦ λ is here. let same : e.1 ≡ v = cc in (λ i. cond (is i) (Some (f e.1)) (node_at p m)) ∙ (λ i. Some (f (same i)))
    | false ↦ λ is rest. (λ i. cond (is i) (Some e.1) (node_at p (update p f m))) ∙ update_same p f v m rest
  ]) refl h

  pub update_other : (p q : Ptr) (f : X → X) (m : List (Ptr × X)) → same_place q p ≡ false → node_at q (update p f m) ≡ node_at q m
  update_other p q f [] d = refl
  update_other p q f (e ∷ m) d = (elim (same_place p e.0) as (λ s. same_place p e.0 ≡ s → node_at q (cond s ((e.0, f e.1) ∷ m) (e ∷ update p f m)) ≡ node_at q (e ∷ m)) [
    | true ↦ λ is. let apart : same_place q e.0 ≡ false = subst (λ r. same_place q r ≡ false) (same_place_eq p e.0 is) d in (λ i. cond (apart i) (Some (f e.1)) (node_at q m)) ∙ (λ i. cond (sym apart i) (Some e.1) (node_at q m))
    | false ↦ λ is. λ i. cond (same_place q e.0) (Some e.1) (update_other p q f m d i)
  ]) refl

  pub update_length : (p : Ptr) (f : X → X) (m : List (Ptr × X)) → length (update p f m) ≡ length m
  update_length p f [] = refl
  update_length p f (e ∷ m) = (elim (same_place p e.0) as (λ s. length (cond s ((e.0, f e.1) ∷ m) (e ∷ update p f m)) ≡ length (e ∷ m)) [
    | true ↦ refl
    | false ↦ λ i. suc (update_length p f m i)
  ])

  pub without_other : (p q : Ptr) (m : List (Ptr × X)) → same_place q p ≡ false → node_at q (without p m) ≡ node_at q m
  without_other p q [] d = refl
  without_other p q (e ∷ m) d = (elim (same_place p e.0) as (λ s. same_place p e.0 ≡ s → node_at q (cond s m (e ∷ without p m)) ≡ node_at q (e ∷ m)) [
    | true ↦ λ is. let apart : same_place q e.0 ≡ false = subst (λ r. same_place q r ≡ false) (same_place_eq p e.0 is) d in (λ i. cond (sym apart i) (Some e.1) (node_at q m))
    | false ↦ λ is. λ i. cond (same_place q e.0) (Some e.1) (without_other p q m d i)
  ]) refl

  pub without_length : (p : Ptr) (m : List (Ptr × X)) → IsSome (node_at p m) → length (without p m) + 1 ≡ length m
  without_length p [] h = cc
  without_length p (e ∷ m) h = (elim (same_place p e.0) as (λ s. IsSome (cond s (Some e.1) (node_at p m)) → length (cond s m (e ∷ without p m)) + 1 ≡ length (e ∷ m)) [
    | true ↦ λ _. omega arith
    | false ↦ λ rest. omega (arith, without_length p m rest)
  ]) h

  pub set_same : (p : Ptr) (w v : X) (m : List (Ptr × X)) → node_at p m ≡ Some v → node_at p (set_node p w m) ≡ Some w
  set_same p w v m h = (λ i. node_at p (set_is_update p w m i)) ∙ update_same p (λ _. w) v m h

  pub set_other : (p q : Ptr) (w : X) (m : List (Ptr × X)) → same_place q p ≡ false → node_at q (set_node p w m) ≡ node_at q m
  set_other p q w m d = (λ i. node_at q (set_is_update p w m i)) ∙ update_other p q (λ _. w) m d

  pub set_length : (p : Ptr) (w : X) (m : List (Ptr × X)) → length (set_node p w m) ≡ length m
  set_length p w m = (λ i. length (set_is_update p w m i)) ∙ update_length p (λ _. w) m
