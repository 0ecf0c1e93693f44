-- What a `Deed` owns is taken apart and made. Assumes `Logic`.
use mathlib.Core.Path.{◌≡◌, refl, subst}
use mathlib.Core.List.{List, [], ◌∷◌, ◌++◌}
use Prim.Native.Nat.{ℕ, zero, suc, ◌<◌}
use native.Mathlib.Omega.{arith}
use seplogic.Ra.Ura.{Ura}
use base.Fml.{Fml}
use base.Logic.{ent, id⊢}
use mir.Val.{Val, vstruct, vcons, vnil, of_list}
use types.Kit.{Goal, Step, step, Seq, Item, ‵, ◌$◌, ◌∵◌, !, qed, done, drop, keep, fsplit, fjoin, fpick, feq_l}
use types.Logic.{Logic, sem}
use denote.RattleType.{RattleType}
use denote.RawPtr.{Ptr}
use denote.Shadow.{pure_i}
use denote.Struct.Owning.{shape}
use denote.Struct.Struct.{Struct}
use Rattle.core.proofs.alloc.Calls.{Al, token}
use Rattle.core.proofs.mem.Param.{El, R}
use Rattle.core.proofs.slots.Leases.{block_ty, P}
use Rattle.part_raw.specs.Raw.{deed_owns}
use Rattle.part_raw.specs.contracts.raw.Deed as D

-- a value of no bytes, in a struct of one field
abbrev pub mark : Val
mark = vstruct (vcons (vstruct vnil) vnil)

module _ (E : El) (Z : Al) where
  abbrev pub Dr : RattleType
  Dr = D.the_row (R E) (P E Z) Z.g

  abbrev pub deed : Z.row.Denot → Ptr → ℕ → Dr.Denot
  deed a at count = record { mark = record {}; at = at; count = count; alloc = a }

  -- the right to a block of so many slots
  abbrev pub right : Z.row.Denot → ℕ → Ptr → Fml
  right a count at = deed_owns (R E) (token Z a) at count

module _ (E : El) (Z : Al) {M : Type 1} {𝓤 : Ura M} (𝓛 : Logic 𝓤) (a : Z.row.Denot) (at : Ptr) where
  -- the token is the right to the block, and nothing for a block of no slots
  pub token_in : (count : ℕ) → ent 𝓤 (sem 𝓛 (token Z a (block_ty E count) at)) (sem 𝓛 (right E Z a count at))
  token_in zero = qed 𝓛 (‵ (token Z a (block_ty E zero) at) ∷ []) ∵ keep ! [] $ done !
  token_in (suc count) = id⊢ 𝓤 (sem 𝓛 (right E Z a (suc count) at))

  pub token_out : (count : ℕ) → 0 < count → ent 𝓤 (sem 𝓛 (right E Z a count at)) (sem 𝓛 (token Z a (block_ty E count) at))
  token_out zero some = absurd (omega (arith, some))
  token_out (suc count) some = id⊢ 𝓤 (sem 𝓛 (right E Z a (suc count) at))

module _ (E : El) (Z : Al) {M : Type 1} {𝓤 : Ura M} {𝓛 : Logic 𝓤} {K : Type 0} {Γ : List (Item 𝓤)} {G : Goal 𝓤 𝓛.H} where
  pub deed_had : K → (d : (Dr E Z).Denot) (vs : List Val)
      → (vs ≡ mark ∷ [] → Seq K 𝓛 (‵ (right E Z d.alloc d.count d.at) ∷ Γ) G) → Seq K 𝓛 (‵ ((Dr E Z).own_val d vs) ∷ Γ) G
  deed_had t d vs k =
      fsplit t $ fpick t (λ vss. fsplit t $ feq_l t (λ all. fsplit t $ fpick t (λ none. fsplit t $ feq_l t (λ e. drop t $ drop t $
      k (subst (λ (ws : List Val). vs ≡ vstruct (of_list (ws ++ [])) ∷ []) e all)))))

  pub deed_made : K → (a : Z.row.Denot) (at : Ptr) (count : ℕ)
      → Step K 𝓛 (‵ ((Dr E Z).own_val (deed E Z a at count) (mark ∷ [])) ∷ Γ) G (‵ (right E Z a count at) ∷ Γ) G
  deed_made t a at count = step (λ s.
      pure_i t ((Struct (shape (D.the_type (R E) (P E Z) Z.g))).own_val (tt, tt) (mark ∷ [])) (λ vss. (tt, ((λ uss. (tt, tt)), tt)))
      ((vstruct vnil ∷ [], tt), (refl, ((tt, (refl, tt)), tt))) $ fjoin t $ s)
