-- A block that is owned lies at another place than each node of a set, where the type takes room. Assumes `Logic`.
use Rattle.std.proofs.Common.{◌≡◌, ℕ, ◌<◌, true, false, cond, List, [], ◌∷◌, refl, ◌∙◌, subst, arith}
use Rattle.std.specs.Prelude.{Option, None}
use seplogic.Ra.Ura.{Ura}
use base.Fraction.{full_share}
use base.Logic.{ent, sep, via, never, never_e, fst∗}
use base.Fml.{fat, froom}
use mir.Val.{Val}
use prog.Memory.{size}
use prog.Model.{Model}
use types.Logic.{Logic, sem}
use types.Kit.{Item, Goal, Seq, mean, prop, ‵, raw, ◌⊛◌, some, ◌$◌, ◌∵◌, !, qed, by, move, keep, use1, use2, pick, split, fsplit, done}
use borrow.Table.OneValue.{part_out}
use contract.Monad.{fact, fact_i, fact_use}
use denote.RattleType.{RattleType}
use denote.Memory.{part_at}
use denote.Param.{param, layout}
use denote.RawPtr.{Ptr, block_ptr, null_ptr, lies_at}
use Rattle.ttree_node.specs.Held.{same_place, node_at, held_owns}
use Rattle.ttree_node.proofs.Cuts.{same_place_eq}
use Rattle.ttree_node.proofs.Memory.{One}

module _ {M : Type 1} {𝓤 : Ura M} {𝓛 : Logic 𝓤} {K : Type 0} {Γ : List (Item 𝓤)} {G : Goal 𝓤 𝓛.H} where
  -- a fact that two entries show is learned, and they stay
  pub learned : K → {i j : Item 𝓤} (φ : Type 0) → ent 𝓤 (sep 𝓤 (mean 𝓛 i) (mean 𝓛 j)) (fact 𝓤 φ) → (φ → Seq K 𝓛 (i ∷ j ∷ Γ) G) → Seq K 𝓛 (i ∷ j ∷ Γ) G
  learned t {i} {j} φ h k =
      let shown : Seq K 𝓛 (i ∷ j ∷ Γ) (prop (fact 𝓤 φ)) = use2 𝓛 (raw (fact 𝓤 φ)) h $ keep t (0 ∷ []) $ done t in
      record { prf = fact_use 𝓤 φ shown.prf (λ x. (k x).prf) }

module _ (T : RattleType) {M : Type 1} {𝓤 : Ura M} (𝓛 : Logic 𝓤) (𝓜 : Model 𝓤 𝓛.H) (wide : 0 < size (layout T)) where
  open 𝓛 use {H}

  abbrev R : RattleType
  R = param 0 T

  room_of : (x : R.Denot) (b o : ℕ) → ent 𝓤 (sem 𝓛 (part_at R full_share x b o)) (H.room (layout R) b o)
  room_of x b o = qed 𝓛 (‵ (part_at R full_share x b o) ∷ []) ∵
      use1 𝓛 (some (λ (v : Val). ‵ (fat full_share (layout R) b o v) ⊛ ‵ (R.own_val x (v ∷ [])))) (part_out 𝓛 R refl full_share x b o) $ pick ! (λ v. split ! $ keep ! (0 ∷ []) $ by ! (𝓛.laws.at_room (layout R) b o v))

  crowded : (p : Ptr) (x y : R.Denot) → ent 𝓤 (sep 𝓤 (sem 𝓛 (lies_at R full_share p x)) (sem 𝓛 (lies_at R full_share p y))) (never 𝓤)
  crowded (block_ptr b o) x y = qed 𝓛 (‵ (part_at R full_share x b o) ∷ ‵ (part_at R full_share y b o) ∷ []) ∵
      use1 𝓛 (‵ (froom (layout R) b o)) (room_of x b o) $ move ! (1 ∷ []) $ use1 𝓛 (‵ (froom (layout R) b o)) (room_of y b o) $
      by ! (𝓜.room-room (layout R) (layout R) b o o o (omega arith, omega (arith, wide)) (omega arith, omega (arith, wide)))
  crowded null_ptr x y = fst∗ 𝓤 (never 𝓤) (never 𝓤)

  two_places : (p q : Ptr) (x y : R.Denot) → ent 𝓤 (sep 𝓤 (sem 𝓛 (lies_at R full_share p x)) (sem 𝓛 (lies_at R full_share q y))) (fact 𝓤 (same_place p q ≡ false))
  two_places p q x y = (elim (same_place p q) as (λ s. same_place p q ≡ s → ent 𝓤 (sep 𝓤 (sem 𝓛 (lies_at R full_share p x)) (sem 𝓛 (lies_at R full_share q y))) (fact 𝓤 (same_place p q ≡ false))) [
    | true ↦ λ e. via 𝓤 (never 𝓤) (subst (λ r. ent 𝓤 (sep 𝓤 (sem 𝓛 (lies_at R full_share p x)) (sem 𝓛 (lies_at R full_share r y))) (never 𝓤)) (same_place_eq p q e) (crowded p x y)) (never_e 𝓤 _)
    | false ↦ λ e. fact_i 𝓤 (same_place p q ≡ false) _ e
  ]) refl

  pub fresh : (p : Ptr) (x : R.Denot) (m : List (Ptr × R.Denot)) → ent 𝓤 (sep 𝓤 (sem 𝓛 (One R 𝓛 (p, x))) (sem 𝓛 (held_owns R m))) (fact 𝓤 (node_at p m ≡ None))
  fresh p x [] = fact_i 𝓤 (node_at p [] ≡ None) _ refl
  fresh p x (e ∷ m) = qed 𝓛 (‵ (One R 𝓛 (p, x)) ∷ ‵ (held_owns R (e ∷ m)) ∷ []) ∵ move ! (1 ∷ []) $ fsplit ! $ move ! (2 ∷ 1 ∷ []) $
      learned ! (node_at p m ≡ None) (fresh p x m) (λ rest. fsplit ! $ move ! (3 ∷ []) $ fsplit ! $ move ! (2 ∷ 0 ∷ []) $ learned ! (same_place p e.0 ≡ false) (two_places p e.0 x e.1) (λ here.
      by ! (fact_i 𝓤 (node_at p (e ∷ m) ≡ None) _ ((λ i. cond (here i) (Rattle.std.specs.Prelude.Some e.1) (node_at p m)) ∙ rest))))
