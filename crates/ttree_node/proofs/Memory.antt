-- What the walks over a set of nodes share. Assumes `Logic`.
--     place_read, place_made     a value of one pointer
--     node_cut, node_glue        one node's memory is taken out of the set's, and put back
--     node_seen                  a `&` to the set shows one node
use Rattle.std.proofs.Common.{◌≡◌, List, [], ◌∷◌, ◌++◌, refl, subst}
use seplogic.Ra.Ura.{Ura}
use base.Logic.{ent, sep, via, fst∗, snd∗, id⊢}
use base.Fml.{Lft, Fml}
use mir.Val.{Val, vstruct, of_list}
use types.Logic.{Logic, sem}
use types.Kit.{Item, Goal, Seq, Step, step, ‵, ◌⊛◌, ◌$◌, ◌∵◌, !, qed, move, drop, use1, use2, split, fsplit, fjoin, fpick, fpack, feq_i, feq_l, done}
use denote.RattleType.{RattleType, Valss}
use denote.RawPtr.{Ptr, RawPtr, ptr_val}
use denote.Steps.{nothing}
use denote.Struct.Lending.{lent_at}
use denote.Struct.Struct.{Shape, Struct, within}
use Rattle.std_alloc.proofs.RcSteps.{word}
use Rattle.std_alloc.specs.Box.Ownership.{box_owns}
use Rattle.ttree_node.specs.Held.{token, held_owns, held_lent}

abbrev one_field : Shape
one_field = record { name = []; args = []; types = []; fields = RawPtr ∷ [] }

abbrev pub Word : RattleType
Word = Struct one_field

module _ {M : Type 1} {𝓤 : Ura M} {𝓛 : Logic 𝓤} {K : Type 0} {Γ : List (Item 𝓤)} {G : Goal 𝓤 𝓛.H} where
  pub place_read : K → (p : Ptr) (vs : List Val) → (vs ≡ word p ∷ [] → Seq K 𝓛 Γ G) → Seq K 𝓛 (‵ (Word.own_val (p, tt) vs) ∷ Γ) G
  place_read t p vs k = fpick t (λ vss. fsplit t $ feq_l t (λ whole. fsplit t $ feq_l t (λ e. drop t $ k (subst (λ (ws : List Val). vs ≡ vstruct (of_list (ws ++ [])) ∷ []) e whole))))

  pub place_made : K → (p : Ptr) → Step K 𝓛 (‵ (Word.own_val (p, tt) (word p ∷ [])) ∷ Γ) G Γ G
  place_made t p = step (λ s.
      nothing t $ feq_i t (List Val) (ptr_val p ∷ []) (ptr_val p ∷ []) refl $ fjoin t $ feq_i t (List Val) (word p ∷ []) (word p ∷ []) refl $ fjoin t $
      fpack t (Valss (RawPtr ∷ [])) (within one_field (p, tt) (word p ∷ [])) (ptr_val p ∷ [], tt) $ s)

module _ (R : RattleType) {M : Type 1} {𝓤 : Ura M} (𝓛 : Logic 𝓤) where
  abbrev pub One : Ptr × R.Denot → Fml
  One e = box_owns token R e.0 e.1

  pub node_cut : (xs : List (Ptr × R.Denot)) (e : Ptr × R.Denot) (ys : List (Ptr × R.Denot)) → ent 𝓤 (sem 𝓛 (held_owns R (xs ++ e ∷ ys))) (sep 𝓤 (sem 𝓛 (One e)) (sem 𝓛 (held_owns R (xs ++ ys))))
  node_cut [] e ys = id⊢ 𝓤 _
  node_cut (x ∷ xs) e ys = qed 𝓛 (‵ (held_owns R (x ∷ xs ++ e ∷ ys)) ∷ []) ∵ fsplit ! $ move ! (1 ∷ []) $
      use1 𝓛 (‵ (One e) ⊛ ‵ (held_owns R (xs ++ ys))) (node_cut xs e ys) $ split ! $ move ! (2 ∷ 1 ∷ []) $ fjoin ! $ move ! (1 ∷ []) $ done !

  pub node_glue : (xs : List (Ptr × R.Denot)) (e : Ptr × R.Denot) (ys : List (Ptr × R.Denot)) → ent 𝓤 (sep 𝓤 (sem 𝓛 (One e)) (sem 𝓛 (held_owns R (xs ++ ys)))) (sem 𝓛 (held_owns R (xs ++ e ∷ ys)))
  node_glue [] e ys = id⊢ 𝓤 _
  node_glue (x ∷ xs) e ys = qed 𝓛 (‵ (One e) ∷ ‵ (held_owns R (x ∷ xs ++ ys)) ∷ []) ∵ move ! (1 ∷ []) $ fsplit ! $ move ! (2 ∷ 1 ∷ []) $
      use2 𝓛 (‵ (held_owns R (xs ++ e ∷ ys))) (node_glue xs e ys) $ move ! (1 ∷ 0 ∷ []) $ fjoin ! $ done !

  pub node_seen : (κ : Lft) (xs : List (Ptr × R.Denot)) (e : Ptr × R.Denot) (ys : List (Ptr × R.Denot)) → ent 𝓤 (sem 𝓛 (held_lent R (xs ++ e ∷ ys) κ)) (sem 𝓛 (lent_at R e.0 e.1 κ))
  node_seen κ [] e ys = fst∗ 𝓤 _ (sem 𝓛 (held_lent R ys κ))
  node_seen κ (x ∷ xs) e ys = via 𝓤 _ (snd∗ 𝓤 (sem 𝓛 (lent_at R x.0 x.1 κ)) _) (node_seen κ xs e ys)
