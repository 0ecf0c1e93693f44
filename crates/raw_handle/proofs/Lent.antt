-- A struct of one pointer that owns what a `RawHandle` does is lent as one. Assumes `Logic`.
use Rattle.std.proofs.Common.{◌≡◌, ℕ, List, [], ◌∷◌, refl, sym}
use seplogic.Ra.Ura.{Ura}
use base.Fraction.{full_share}
use base.Logic.{ent, sep, id⊢}
use base.Fml.{Lft, GName, Fml, Share, ftrue, fsep, flft, fobs, fbor}
use mir.Syntax.{Ty, named}
use mir.Val.{Val, vptr}
use types.Logic.{Logic, sem}
use types.SemTy.{Body}
use types.Kit.{Item, Goal, Soaks, Seq, ‵, raw, ◌⊛◌, some, later, await, pick, ◌$◌, ◌∵◌, !, qed, move, drop, split3, group, fsplit, fjoin, fpick, fpack, rewrite, use1, use2, done}
use denote.Follow.{follows, Part, lends_Part}
use denote.Memory.{mem, raw_all, cell_raw, cell_at, part_at, part_of}
use denote.RattleType.{RattleType}
use denote.Ref.{MutRef}
use denote.Steps.{nothing, opens}
use Rattle.raw_handle.proofs.Steps.{H}

-- N is the struct, and `as_it` makes its value of a handle's
module _ (T N : RattleType) (as_it : (H T).Denot → N.Denot) (alike : raw_all N.mir ≡ raw_all (H T).mir) (same : (w : (H T).Denot) (vs : List Val) → N.own_val (as_it w) vs ≡ (H T).own_val w vs) where
  abbrev R : RattleType
  R = H T

  module _ {M : Type 1} {𝓤 : Ura M} (𝓛 : Logic 𝓤) (b o : ℕ) (w : R.Denot) where
    there : (vs : List Val) → ent 𝓤 (sep 𝓤 (sem 𝓛 (cell_at full_share N.mir vs b o)) (sem 𝓛 (N.own_val (as_it w) vs))) (sem 𝓛 ((mem R).own_at w b o))
    unfolding part_of
    there vs =
        qed 𝓛 (‵ (cell_at full_share N.mir vs b o) ∷ ‵ (N.own_val (as_it w) vs) ∷ []) ∵ rewrite ! 0 (λ (ρs : List Ty). ‵ (cell_raw full_share ρs vs b o)) alike refl $
        rewrite ! 1 (λ (P : Fml). ‵ P) (same w vs) refl $ fjoin ! $ fpack ! (List Val) (λ us. fsep (cell_at full_share R.mir us b o) (R.own_val w us)) vs $ done !

    back : ent 𝓤 (sep 𝓤 (sem 𝓛 ((mem R).own_at w b o)) (sem 𝓛 ftrue)) (sem 𝓛 ((mem N).own_at (as_it w) b o))
    unfolding part_of
    back =
        qed 𝓛 (‵ (part_at R full_share w b o) ∷ ‵ ftrue ∷ []) ∵ move ! (1 ∷ []) $ drop ! $ fpick ! (λ vs. fsplit ! $ rewrite ! 0 (λ (ρs : List Ty). ‵ (cell_raw full_share ρs vs b o)) (sym alike) refl $
        rewrite ! 1 (λ (P : Fml). ‵ P) (sym (same w vs)) refl $ fjoin ! $ fpack ! (List Val) (λ us. fsep (cell_at full_share N.mir us b o) (N.own_val (as_it w) us)) vs $ done !)

  module _ {M : Type 1} {𝓤 : Ura M} {𝓛 : Logic 𝓤} {K : Type 0} {Γ : List (Item 𝓤)} {G : Goal 𝓤 𝓛.H} where
    pub lent : K → Soaks G → {κ : Lft} {q : Share} {γ : GName} (b o : ℕ) (w : R.Denot)
        → ((δ : GName) → Seq K 𝓛 (‵ ((MutRef (named 0) κ R).own_val (record { ref_ptr = (b, o); ghost_name = δ; now = w }) (vptr b o ∷ [])) ∷ ‵ (flft κ q) ∷ ‵ (follows N R γ δ as_it) ∷ Γ) G)
        → Seq K 𝓛 (‵ (fobs γ (N.coded.code (as_it w))) ∷ ‵ (fbor κ (Body (mem N) b o γ)) ∷ ‵ (flft κ q) ∷ Γ) G
    lent t z {κ} {q} {γ} b o w k = let code = N.coded.code (as_it w) in
        opens t z N {h = as_it w} b o (λ vs. use2 𝓛 (‵ ((mem R).own_at w b o)) (there 𝓛 b o w vs) $ nothing t $ move t (2 ∷ 3 ∷ 4 ∷ 1 ∷ 0 ∷ []) $ group t 5 $
        use1 𝓛 (later (some (λ (δ : GName). raw (Part 𝓛 N R as_it (named 0) κ q b o b o γ (sem 𝓛 ftrue) (back 𝓛 b o) w δ)))) (lends_Part 𝓛 N R as_it (named 0) κ q b o b o γ (sem 𝓛 ftrue) (back 𝓛 b o) code code w) $
        await t z $ pick t (λ δ.
        use1 𝓛 (‵ ((MutRef (named 0) κ R).own_val (record { ref_ptr = (b, o); ghost_name = δ; now = w }) (vptr b o ∷ [])) ⊛ ‵ (flft κ q) ⊛ ‵ (follows N R γ δ as_it)) (id⊢ 𝓤 _) $ split3 t $ k δ))
