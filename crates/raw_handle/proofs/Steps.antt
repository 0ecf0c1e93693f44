-- The machine value of a `RawHandle`: the pointer. Assumes `Logic`.
use Rattle.std.proofs.Common.{◌≡◌, ℕ, List, [], ◌∷◌, ◌++◌, refl, subst}
use seplogic.Ra.Ura.{Ura}
use mir.Val.{Val, vstruct, vcons, vnil, of_list}
use types.Logic.{Logic, sem}
use base.Logic.{ent, guard, via, snd∗, guard_i}
use base.Fraction.{full_share}
use mir.Raw.{raw as bare}
use contract.Monad.{fact_use}
use denote.Memory.{lone}
use types.Kit.{given, learn, use1, Item, Goal, Seq, Step, step, ‵, ◌$◌, drop, fsplit, fjoin, fpick, fpack, feq_i, feq_l}
use denote.RattleType.{RattleType, Valss}
use denote.Builtin.{RawPtr}
use denote.RawPtr.{Ptr, block_ptr, null_ptr, ptr_val, lies_at, Testable}
use denote.Steps.{nothing}
use denote.Struct.Struct.{within}
use denote.Struct.Owning.{shape}
use Rattle.std.specs.declared.option.Option.{Option}
use Rattle.std.specs.declared.option.Option.TheVariants.{None, Some}
use Rattle.std.specs.declared.alloc.Global.{Global}
use Rattle.std.specs.contracts.impls.GlobalAllocator.TheImpl.{ghosts}
use Rattle.std.proofs.GlobalToken.{dealloc_token-Testable}
use Rattle.std_alloc.specs.Box.Ownership.{box_owns}
use Rattle.raw_handle.specs.Holds.{holds}
use Rattle.raw_handle.specs.contracts.RawHandle as raw_handle

abbrev pub one : Val → Val
one v = vstruct (vcons v vnil)

module _ (R : RattleType) where
  abbrev pub H : RattleType
  H = raw_handle.the_row R

  module _ {M : Type 1} {𝓤 : Ura M} (𝓛 : Logic 𝓤) (a : Global) where
    tested : (p : Ptr) (x : R.Denot) → ent 𝓤 (sem 𝓛 (box_owns (ghosts.dealloc_token a) R p x)) (guard 𝓤 (Testable p) (sem 𝓛 (box_owns (ghosts.dealloc_token a) R p x)))
    tested p x = let B = sem 𝓛 (box_owns (ghosts.dealloc_token a) R p x) in
        fact_use 𝓤 (Testable p) (via 𝓤 _ (snd∗ 𝓤 (sem 𝓛 (lies_at R full_share p x)) (sem 𝓛 (ghosts.dealloc_token a (bare (lone R.mir)) p))) (dealloc_token-Testable 𝓛 a (bare (lone R.mir)) p)) (guard_i 𝓤 (Testable p) B)

  module _ {M : Type 1} {𝓤 : Ura M} {𝓛 : Logic 𝓤} {K : Type 0} {Γ : List (Item 𝓤)} {G : Goal 𝓤 𝓛.H} where
    -- a handle by value is what it owns
    pub handle_out : K → (d : H.Denot) (vs : List Val) → (vs ≡ one (ptr_val d.at) ∷ [] → Seq K 𝓛 (‵ (holds R d.at d.value) ∷ Γ) G) → Seq K 𝓛 (‵ (H.own_val d vs) ∷ Γ) G
    handle_out t d vs k =
        fsplit t $ fpick t (λ vss. fsplit t $ feq_l t (λ whole. fsplit t $ feq_l t (λ word. drop t $
        k (subst (λ (ps : List Val). vs ≡ vstruct (of_list (ps ++ [])) ∷ []) word whole))))

    pub handle_in : K → (p : Ptr) (k : Option R.Denot) → Step K 𝓛 (‵ (H.own_val (record { at = p; value = k }) (one (ptr_val p) ∷ [])) ∷ Γ) G (‵ (holds R p k) ∷ Γ) G
    handle_in t p k = step (λ s. let v : Val = one (ptr_val p) in
        nothing t $ feq_i t (List Val) (ptr_val p ∷ []) (ptr_val p ∷ []) refl $ fjoin t $ feq_i t (List Val) (v ∷ []) (v ∷ []) refl $ fjoin t $
        fpack t (Valss (RawPtr ∷ [])) (within (shape (raw_handle.the_type R)) (p, tt) (v ∷ [])) (ptr_val p ∷ [], tt) $ fjoin t $ s)

    -- what a handle owns is nothing, or a block, which starts where it may be compared with null
    pub holds_cases : K → (a : Global) (p : Ptr) (k : Option R.Denot) → (p ≡ null_ptr → k ≡ None → Seq K 𝓛 Γ G)
        → ((b o : ℕ) (x : R.Denot) → p ≡ block_ptr b o → k ≡ Some x → Testable (block_ptr b o) → Seq K 𝓛 (‵ (box_owns (ghosts.dealloc_token a) R (block_ptr b o) x) ∷ Γ) G)
        → Seq K 𝓛 (‵ (holds R p k) ∷ Γ) G
    holds_cases t a null_ptr None none some = drop t $ none refl refl
    holds_cases t a null_ptr (Some x) none some = fpick t (λ e. absurd e)
    holds_cases t a (block_ptr b o) None none some = fpick t (λ e. absurd e)
    holds_cases t a (block_ptr b o) (Some x) none some =
        use1 𝓛 (given (Testable (block_ptr b o)) (‵ (box_owns (ghosts.dealloc_token a) R (block_ptr b o) x))) (tested 𝓛 a (block_ptr b o) x) $
        learn t (λ tests. some b o x refl refl tests)
