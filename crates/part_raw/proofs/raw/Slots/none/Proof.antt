-- `none` makes slots of no block, by the pointer to others. Assumes `Logic`.
use mathlib.Core.Path.{refl}
use Prim.Native.Nat.{ℕ, ◌+◌}
use native.Mathlib.Omega.{arith}
use native.Mathlib.Nat.{zero-mul}
use mathlib.Core.List.{[], ◌∷◌}
use seplogic.Ra.Ura.{Ura}
use base.Fml.{ftrue, flft}
use base.Logic.{SProp, ent, never, id⊢}
use contract.Monad.{Fun}
use contract.Running.{tables, tables_of}
use mir.MapTy.{inst_fn}
use mir.Syntax.{Fn, named}
use mir.Val.{Val, vptr}
use prog.Memory.{Memory}
use prog.Routine.{Routine}
use prog.Wp.{WpFn, Tables}
use sound.WpLaws.{WpFn-mono}
use types.ByLocal.{alloc_all, pass_all, free_all, look_at, get, through, sets}
use types.Part.{agg}
use types.Kit.{‵, raw, ◌⊛◌, ◌$◌, ◌∵◌, !, qed, move, keep, drop, use1, split, join, fsplit, fjoin, flt_l, suffices, done}
use types.Logic.{Logic}
use types.Run.{look, stop, fld, load, of_opd, and_then, no_more, returns, enter}
use denote.Builtin.{RefOf}
use denote.Exit.{yes}
use denote.RattleType.{owns}
use denote.RawPtr.{Ptr, RawPtr, block_ptr, in_a_block}
use denote.Memory.{hidden_shr}
use denote.Ref.{shr_vals, shr_Tells}
use denote.Signature.{plain, types_at}
use denote.Steps.{nothing}
use denote.Triple.Clauses.{Clauses, Ended, closing}
use denote.Triple.Spec.{Meets, triple_of}
use denote.Triple.Table.{entered}
use denote.Triple.Walked.{says, Stays, stay_dropped, walk_of, ends_at, walked, Goes-dropped, walk_Meets}
use Rattle.core.proofs.mem.Param.{El, R, args}
use Rattle.core.proofs.slots.Lent.{pointer_in, pointer_out}
use Rattle.std_alloc.proofs.RcSteps.{word, word-Good}
use Rattle.part_raw.specs.Raw.{block_lends}
use Rattle.part_raw.proofs.SlotSteps.{Sr, slots_d, sz, seen, slots_made}
use Rattle.part_raw.specs.contracts.raw.Slots.none as F
use Rattle.part_raw.specs.contracts.raw.Slots.none.Key.{name as #self}
use Rattle.part_raw.proofs.raw.Slots.none.Statement as stated
use Rattle.part_raw.proofs.raw.Slots.none.Code as code

module _ (E : El) where
  abbrev here : Fn
  here = inst_fn (args E) code.function

  abbrev ended : Ended
  ended = F.ended E.row

  abbrev stayed : Stays ended.signature.params ended.kept
  stayed = (stay_dropped (RefOf (0 ∷ []) tt (plain (λ _. Sr E)) (λ _. tt)) yes, tt)

  module _ {M : Type 1} {𝓤 : Ura M} (𝓛 : Logic 𝓤) (at_mem : Memory → SProp 𝓤) (run : Routine → Fun 𝓤) (𝓣 : Tables 𝓤 𝓛.H) where
    open 𝓛 use {H}

    abbrev held : Clauses 𝓤 ended
    held = F.clauses E.row 𝓛 at_mem run

    abbrev Bound : Type 0
    Bound = (walk_of 𝓛 ended stayed held).Ghost

    abbrev spelled : Bound → Bound
    spelled z = ((z.0.0, z.0.1, z.0.2, z.0.3, (shr_vals z.0.3.0, tt)), z.1)

    walk : (z : Bound) → ent 𝓤 ((walk_of 𝓛 ended stayed held).pre (spelled z)) (WpFn 𝓤 H 𝓣.C 𝓣.Λ here ((walk_of 𝓛 ended stayed held).args (spelled z)) ((walk_of 𝓛 ended stayed held).post (spelled z)))
    walk z =
        let κ = z.0.0.0 in let κ₁ = z.0.0.1.0 in let q = z.0.1.0 in let q₁ = z.0.1.1.0 in
        let rb : ℕ = z.0.3.0.ref_ptr.0 in let ro : ℕ = z.0.3.0.ref_ptr.1 in let d : slots_d E = z.0.3.0.now in
        let Post : Val → SProp 𝓤 = (walk_of 𝓛 ended stayed held).post (spelled z) in
        qed 𝓛 (((‵ (flft κ q) ⊛ ‵ (flft κ₁ q₁) ⊛ ‵ ftrue) ⊛ ‵ (owns (types_at ended.signature.params z.0.0) z.0.3 (spelled z).0.4)) ∷ raw ((held z.0.0 z.0.3).requires z.1) ∷ []) ∵
        keep ! (0 ∷ []) $ split ! $ split ! $ move ! (2 ∷ []) $ fsplit ! $ fsplit ! $ drop ! $
        use1 𝓛 (‵ (hidden_shr RawPtr κ d.ptr rb (ro + 0)) ⊛ ‵ (block_lends (R E) d.ptr d.held κ)) (seen E 𝓛 κ d rb ro) $ split ! $ move ! (1 ∷ []) $
        in_a_block ! d.ptr (λ p. block_lends (R E) p d.held κ) (id⊢ 𝓤 (never 𝓤)) (λ b o at. fsplit ! $ flt_l ! (λ fit.
        let p : Ptr = block_ptr b o in
        let new : slots_d E = record { ptr = block_ptr b o; held = [] } in
        keep ! (1 ∷ 3 ∷ 4 ∷ []) $
        -- [a `&` to the pointer; the token; the other token]
        enter ! 𝓣.C 𝓣.Λ here (vptr rb ro ∷ []) Post $ alloc_all ! (λ l. pass_all ! refl ((tt, tt), tt) $
        pointer_in ! tt d.ptr b o at rb (ro + 0) (λ q'.
        sets ! (of_opd ! (load ! (through ! refl (fld ! refl (stop !))) (look ! 0 refl))) refl (tt, tt) $ pointer_out ! tt d.ptr b o at rb (ro + 0) $
        sets ! (agg ! (and_then ! (get ! refl) (no_more !))) refl (word-Good [] p) $
        returns ! (look_at ! 0 refl) $ free_all ! refl $
        suffices ! _ (ends_at 𝓛 ended stayed held (spelled z) (word p) new (tt, tt) (tt, tt)) $ says ! refl $ join ! $
        nothing ! $ slots_made E ! new b o refl (omega (arith, zero-mul (sz E))) $ nothing ! $ nothing ! $ fjoin ! $ move ! (2 ∷ 0 ∷ 1 ∷ []) $ done !))))

    meets : Meets 𝓛 ended.signature (WpFn 𝓤 H 𝓣.C 𝓣.Λ here) (closing 𝓛 ended held)
    meets =
        walk_Meets 𝓛 ended stayed (Goes-dropped 𝓛 2 (RefOf (0 ∷ []) tt (plain (λ _. Sr E)) (λ _. tt)) yes (λ κs x f. refl), tt) held
        (WpFn 𝓤 H 𝓣.C 𝓣.Λ here) (WpFn-mono 𝓤 H 𝓛.laws 𝓣 here)
        (walked 𝓛 ended stayed held (WpFn 𝓤 H 𝓣.C 𝓣.Λ here) (λ κs. (shr_vals, tt)) (λ κs. (shr_Tells (named 0) κs.0 (Sr E), tt))
        (λ κs qs bounds a g are. walk ((κs, qs, bounds, a, (shr_vals a.0, tt)), g)))

pub none_spec : {M : Type 1} → stated.statement M
unfolding tables_of
none_spec 𝓤 𝓛 𝓜 𝓡 wired X L =
    let E : El = record { row = X; laws = L } in
    let 𝓣 : Tables 𝓤 𝓛.H = tables_of 𝓤 𝓛.H 𝓜 (tables 𝓤 𝓛.H 𝓜 𝓡 𝓡.env) in
    entered 𝓤 𝓛.H (triple_of 𝓛 (F.signature X) (F.spec X 𝓛 𝓜.mem 𝓡.returns)) 𝓣.C 𝓣.Λ (#self (args E)) (here E) (code.unfolded 𝓤 𝓛.H 𝓜 𝓡 wired (X, tt))
    (meets E 𝓛 𝓜.mem 𝓡.returns 𝓣)
