-- A set of nodes, cut where a node lies.
use Rattle.std.proofs.Common.{◌≡◌, Bool, true, false, ◌&&◌, ◌==◌, cond, List, [], ◌∷◌, ◌++◌, refl, sym, ◌∙◌}
use Rattle.std.specs.Prelude.{Some, IsSome}
use Rattle.std.proofs.lemmas.Bool.{and_parts, eqb-true, eq-eqb}
use denote.RawPtr.{Ptr, block_ptr, null_ptr}
use Rattle.ttree_node.specs.Held.{same_place, node_at, set_node, without}

pub same_place_refl : (p : Ptr) → same_place p p ≡ true
same_place_refl (block_ptr b o) = λ i. eq-eqb b b refl i && eq-eqb o o refl i
same_place_refl null_ptr = refl

pub same_place_eq : (p q : Ptr) → same_place p q ≡ true → p ≡ q
same_place_eq (block_ptr b o) (block_ptr c p) e = let t = and_parts (b == c) (o == p) e in λ i. block_ptr (eqb-true b c t.0 i) (eqb-true o p t.1 i)
same_place_eq (block_ptr b o) null_ptr e = cc
same_place_eq null_ptr (block_ptr c p) e = cc
same_place_eq null_ptr null_ptr e = refl

module _ {X : Type 0} where
  -- the node at p, with those before it and those after it
  pub record Cut (p : Ptr) (m : List (Ptr × X)) : Type 0 where
    pub before : List (Ptr × X)
    pub node : X
    pub after : List (Ptr × X)
    pub whole : m ≡ before ++ (p, node) ∷ after
    pub found : node_at p m ≡ Some node
    pub written : (w : X) → set_node p w m ≡ before ++ (p, w) ∷ after
    pub rest : without p m ≡ before ++ after

  step : (p : Ptr) (e : Ptr × X) (m : List (Ptr × X)) → (b : Bool) → same_place p e.0 ≡ b → (IsSome (node_at p m) → Cut p m) → IsSome (cond b (Some e.1) (node_at p m)) → Cut p (e ∷ m)
  step p e m true is rec h =
      let at : e.0 ≡ p = sym (same_place_eq p e.0 is) in
      record {
        before = [];
        node = e.1;
        after = m;
        whole = λ i. (at i, e.1) ∷ m;
        found = λ i. cond (is i) (Some e.1) (node_at p m);
        written = λ w. (λ i. cond (is i) ((e.0, w) ∷ m) (e ∷ set_node p w m)) ∙ (λ i. (at i, w) ∷ m);
        rest = λ i. cond (is i) m (e ∷ without p m);
      }
  step p e m false is rec h =
      let c = rec h in
      record {
        before = e ∷ c.before;
        node = c.node;
        after = c.after;
        whole = λ i. e ∷ c.whole i;
        found = (λ i. cond (is i) (Some e.1) (node_at p m)) ∙ c.found;
        written = λ w. (λ i. cond (is i) ((e.0, w) ∷ m) (e ∷ set_node p w m)) ∙ (λ i. e ∷ c.written w i);
        rest = (λ i. cond (is i) m (e ∷ without p m)) ∙ (λ i. e ∷ c.rest i);
      }

  pub cut_at : (p : Ptr) (m : List (Ptr × X)) → IsSome (node_at p m) → Cut p m
  cut_at p [] h = cc
  cut_at p (e ∷ m) h = step p e m (same_place p e.0) refl (cut_at p m) h
