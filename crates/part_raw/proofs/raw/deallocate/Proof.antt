-- `deallocate` makes room of the empty slots, and hands the block back with the right to free it. Assumes `Logic`.
use mathlib.Core.Path.{◌≡◌, refl, sym, ap, subst, ◌∙◌}
use Prim.Native.Nat.{ℕ, ◌*◌, ◌<◌, ◌^◌}
use native.Mathlib.Nat.{zero-mul}
use native.Mathlib.Omega.{arith}
use mathlib.Core.List.{List, [], ◌∷◌, ◌++◌}
use lib.Dec.{T}
use lib.ListN.{length, replicate, length-replicate}
use seplogic.Ra.Ura.{Ura}
use base.Fml.{ftrue, froom, flft, Incl-trans}
use base.Logic.{SProp, ent, id⊢}
use contract.BorrowLft.{◌⊑◌}
use contract.Monad.{Fun, fact}
use contract.Running.{tables, tables_of}
use mir.MapTy.{inst_fn}
use mir.Syntax.{Fn, w64, ty_unit, ty_array}
use mir.Val.{Val, vint, vptr, vunit, has_ty, WT}
use prog.Capped.{capped_fits}
use prog.Memory.{Memory, align, capped}
use prog.Routine.{Routine}
use prog.Wp.{Env, WpFn, Tables}
use sound.WpLaws.{fm_of, WpFn-mono}
use types.ByLocal.{alloc_all, pass_all, free_all, look_at, get, through, is, sets, lands_last, env}
use types.Kit.{‵, raw, ◌⊛◌, given, later, at_ret, ◌$◌, ◌∵◌, !, qed, move, keep, drop, use1, use3, learn, split, join, fsplit, fsplit3, fjoin, fjoin3, feq_i, feq_l, flt_l, rewrite, suffices, await, done}
use types.Logic.{Logic}
use types.Part.{whole, sub, look_in}
use types.Run.{stop, fld, load, unit_lit, size_word, align_word, no_more, and_then, of_opd, bin, first, blocks, exec, returns, enter}
use denote.Builtin.{usize, RefOf}
use denote.Exit.{yes, no}
use denote.RattleType.{owns}
use denote.RawPtr.{Ptr}
use denote.Signature.{plain, types_at}
use denote.Steps.{heard, nothing}
use denote.Triple.Call.{calls_at_last}
use denote.Triple.Clauses.{Clauses, Ended, closing}
use denote.Triple.Spec.{Meets, triple_of}
use denote.Triple.Statement.{Triple}
use denote.Triple.Table.{entered}
use denote.Triple.Walked.{says, Stays, stay_dropped, stay_ref, walk_of, ends_at, Goes-dropped, Goes-ref, walk_Meets}
use Rattle.std.specs.Prelude.{None}
use Rattle.core.proofs.alloc.Calls.{Al, Goes-blank, token, gives_key, Gives, at_gives, Gives-goes, Gives-Gives}
use Rattle.core.proofs.mem.Param.{El, R, elτ}
use Rattle.core.proofs.slots.Leases.{uncapped, block_ty, block_size, block_align, args, P}
use Rattle.std_alloc.proofs.VecSteps.Shapes.{after}
use Rattle.part_raw.specs.Raw.{slots_own}
use Rattle.part_raw.proofs.SlotSteps.{Sr, slots_d, Slot, sz, to_room, opened, closed}
use Rattle.part_raw.proofs.Deeds.{Dr, mark, token_out, deed_had}
use Rattle.part_raw.specs.contracts.raw.deallocate as F
use Rattle.part_raw.specs.contracts.raw.deallocate.Key.{name as #self}
use Rattle.part_raw.proofs.raw.deallocate.Statement as stated
use Rattle.part_raw.proofs.raw.deallocate.Code as code

module _ (E : El) (Z : Al) where
  abbrev here : Fn
  here = inst_fn (args E Z) code.function

  abbrev ended : Ended
  ended = F.ended E.row Z.row Z.g Z.d Z.drops

  abbrev stayed : Stays ended.signature.params ended.kept
  stayed = (stay_dropped (RefOf (0 ∷ []) tt (plain (λ _. P E Z)) (λ _. tt)) yes, (stay_ref (1 ∷ []) tt (plain (λ _. Sr E)), (stay_dropped (plain (λ _. usize)) yes, (stay_dropped (plain (λ _. Dr E Z)) no, tt))))

  module _ {M : Type 1} {𝓤 : Ura M} (𝓛 : Logic 𝓤) (at_mem : Memory → SProp 𝓤) (run : Routine → Fun 𝓤) (𝓣 : Tables 𝓤 𝓛.H) (callee : Triple 𝓤 (𝓣.C (gives_key Z)) (Gives Z 𝓛 at_mem run)) where
    open 𝓛 use {H}

    abbrev held : Clauses 𝓤 ended
    held = F.clauses E.row Z.row Z.g Z.d Z.drops 𝓛 at_mem run

    abbrev Bound : Type 0
    Bound = (walk_of 𝓛 ended stayed held).Ghost

    walk : (z : Bound) → ent 𝓤 ((walk_of 𝓛 ended stayed held).pre z) (WpFn 𝓤 H 𝓣.C 𝓣.Λ here ((walk_of 𝓛 ended stayed held).args z) ((walk_of 𝓛 ended stayed held).post z))
    walk z =
        let κ = z.0.0.0 in let κ₁ = z.0.0.1.0 in let κ₂ = z.0.0.1.1.0 in let κ₃ = z.0.0.1.1.1.0 in let q = z.0.1.0 in let q₁ = z.0.1.1.0 in let q₂ = z.0.1.1.1.0 in let q₃ = z.0.1.1.1.1.0 in
        let hp : ℕ × ℕ = z.0.3.0.ref_ptr in let a : Z.row.Denot = z.0.3.0.now in let rb : ℕ = z.0.3.1.0.ref_ptr.0 in let ro : ℕ = z.0.3.1.0.ref_ptr.1 in let d : slots_d E = z.0.3.1.0.now in
        let n : ℕ = z.0.3.1.1.0 in let right : (Dr E Z).Denot = z.0.3.1.1.1.0 in let vss = z.0.4 in
        let Post : Val → SProp 𝓤 = (walk_of 𝓛 ended stayed held).post z in
        let Asked : Type 0 = (d.held ≡ replicate n None) × (0 < n) × (right.at ≡ d.ptr) × (right.count ≡ n) × (right.alloc ≡ a) in
        let s : ℕ = sz E in let al : ℕ = capped (align (elτ E)) in let new : slots_d E = record { ptr = d.ptr; held = [] } in
        qed 𝓛 (((‵ (flft κ q) ⊛ ‵ (flft κ₁ q₁) ⊛ ‵ (flft κ₂ q₂) ⊛ ‵ (flft κ₃ q₃) ⊛ ‵ ftrue) ⊛ ‵ (owns (types_at ended.signature.params z.0.0) z.0.3 vss))
        ∷ (raw (fact 𝓤 (κ₂ ⊑ E.row.lives)) ⊛ raw (fact 𝓤 (κ₃ ⊑ Z.row.lives)) ⊛ raw (fact 𝓤 Asked)) ∷ []) ∵
        move ! (1 ∷ []) $ split ! $ drop ! $ split ! $ heard ! (κ₃ ⊑ Z.row.lives) (λ inZ. heard ! Asked (λ asked.
        split ! $ split ! $ move ! (2 ∷ []) $ fsplit3 ! $ fsplit ! $ feq_l ! (λ e₀. move ! (1 ∷ []) $ fsplit3 ! $ feq_l ! (λ e₁.
        move ! (3 ∷ []) $ fsplit3 ! $ fsplit ! $ feq_l ! (λ e₂. flt_l ! (λ fits. deed_had E Z ! right vss.1.1.1.0 (λ e₃.
        let some : 0 < right.count = omega (arith, asked.1, asked.3) in
        use1 𝓛 (‵ (token Z right.alloc (block_ty E right.count) right.at)) (token_out E Z 𝓛 right.alloc right.at right.count some) $
        move ! (6 ∷ []) $ split ! $ keep ! (4 ∷ 5 ∷ 0 ∷ 1 ∷ 6 ∷ 7 ∷ 2 ∷ []) $
        -- [observed; the borrow; its token; the other tokens; the handle; its token; the right to free the block]
        let us : List Val = vptr hp.0 hp.1 ∷ vptr rb ro ∷ vint w64 n ∷ mark ∷ [] in
        let Run : List Val → SProp 𝓤 = λ ws. WpFn 𝓤 H 𝓣.C 𝓣.Λ here ws Post in
        suffices ! (Run us) (subst (λ (ws : List Val). ent 𝓤 (Run us) (Run ws)) (sym (λ k. e₀ k ++ (e₁ k ++ (e₂ k ++ (e₃ k ++ []))))) (id⊢ 𝓤 (Run us))) $
        enter ! 𝓣.C 𝓣.Λ here us Post $ alloc_all ! (λ l. pass_all ! refl ((tt, tt), ((tt, tt), ((tt, record { fits = fits }), ((tt, (tt, tt)), tt)))) $
        let En : Env 𝓤 H = env here.locals l in
        opened E ! tt d rb ro (λ b o at fit.
        let small : n * s < 2 ^ 63 = subst (λ (k : ℕ). k * s < 2 ^ 63) (ap length asked.0 ∙ length-replicate n None) fit in let fm : n * s < 2 ^ 64 = omega arith in
        rewrite ! 0 (λ (slots : List (Slot E)). ‵ (slots_own (R E) b o slots)) asked.0 refl $
        use1 𝓛 (‵ (froom (ty_array (elτ E) n) b o)) (to_room E 𝓛 b n o) $ use1 𝓛 (‵ (froom (block_ty E n) b o)) (𝓛.laws.room-raw (ty_array (elτ E) n) b o) $ move ! (8 ∷ []) $
        rewrite ! 0 (λ (t : Z.row.Denot × Ptr × ℕ). ‵ (token Z t.0 (block_ty E t.2) t.1)) (λ j. (asked.4 j, (asked.2 ∙ at) j, asked.3 j)) refl $
        move ! (1 ∷ 0 ∷ 7 ∷ 8 ∷ []) $
        -- [the room; the right to free it; the handle; its token; the pointer's cell; the open borrow; observed; authority; the other tokens]
        let y : (Gives Z 𝓛 at_mem run).Ghost = at_gives Z 𝓛 at_mem run κ q hp a b o (n * s) al (block_ty E n) in
        first ! $ blocks ! $ sets ! (of_opd ! (load ! (through ! refl (fld ! refl (stop !))) (look_in ! 4 (sub ! 0 refl (whole !))))) refl (tt, tt) $ sets ! (of_opd ! (get ! refl)) refl (tt, tt) $
        sets ! (is ! (bin ! (get ! refl) (size_word !) (record { fits = subst (λ (k : ℕ). k < 2 ^ 64) (sym (uncapped n s fm)) fm })) (ap (vint w64) (uncapped n s fm))) refl (tt, record { fits = fm }) $
        move ! (2 ∷ 3 ∷ []) $ join ! $ move ! (1 ∷ 2 ∷ 0 ∷ []) $ use3 𝓛 (raw ((Gives Z 𝓛 at_mem run).pre y))
        (Gives-goes Z 𝓛 at_mem run κ q hp a (Incl-trans z.0.2.0 inZ) b o (n * s) al (block_ty E n) (block_size E n fm) (block_align E n) fm (capped_fits (align (elτ E)))) $
        calls_at_last ! (fm_of 𝓤 H 𝓛.laws 𝓣) (Gives Z 𝓛 at_mem run) callee y (and_then ! (get ! refl) (and_then ! (get ! refl) (and_then ! (get ! refl) (and_then ! (align_word !) (no_more !))))) (λ v.
        use1 𝓛 (later (given (v ≡ vunit) (‵ (flft κ q)))) (Gives-Gives Z 𝓛 at_mem run κ q hp a b o (n * s) al (block_ty E n) v) $ await ! tt $ learn ! (λ e.
        lands_last ! refl (subst (λ (u : Val). T (has_ty ty_unit u) × WT u) (sym e) (tt, tt)) $ exec ! 𝓣.C 𝓣.Λ En (after 1 here.body) (at_ret En Post) $
        sets ! (of_opd ! (unit_lit !)) refl (tt, tt) $
        -- [the handle's token; the pointer's cell; the open borrow; observed; authority; the other tokens]
        move ! (1 ∷ 2 ∷ 3 ∷ 4 ∷ []) $ nothing ! $
        closed E ! tt new b o rb ro at (omega (arith, zero-mul s)) $ returns ! (look_at ! 0 refl) $ free_all ! refl $
        suffices ! _ (ends_at 𝓛 ended stayed held z vunit tt (tt, (new, (tt, (tt, tt)))) (tt, (tt, (tt, (tt, tt))))) $ says ! refl $
        feq_i ! (List Val) vss.1.0 (vptr rb ro ∷ []) e₁ $ fjoin3 ! $ nothing ! $ nothing ! $ fjoin ! $ nothing ! $ fjoin ! $ move ! (1 ∷ 0 ∷ []) $ fjoin ! $ nothing ! $ fjoin ! $
        move ! (1 ∷ 3 ∷ []) $ join ! $ move ! (2 ∷ 0 ∷ []) $ join ! $ feq_i ! (List Val) (vunit ∷ []) (vunit ∷ []) refl $ keep ! (1 ∷ 2 ∷ 0 ∷ []) $ done !)))))))))))

    meets : Meets 𝓛 ended.signature (WpFn 𝓤 H 𝓣.C 𝓣.Λ here) (closing 𝓛 ended held)
    meets =
        walk_Meets 𝓛 ended stayed (
          Goes-dropped 𝓛 4 (RefOf (0 ∷ []) tt (plain (λ _. P E Z)) (λ _. tt)) yes (λ κs x f. refl),
          (Goes-ref 𝓛 4 1 tt (plain (λ _. Sr E)), (Goes-dropped 𝓛 4 (plain (λ _. usize)) yes (λ κs x f. refl), (Goes-blank 𝓛 4 (plain (λ _. Dr E Z)) no (λ κs x f. tt), tt))),
        ) held (WpFn 𝓤 H 𝓣.C 𝓣.Λ here) (WpFn-mono 𝓤 H 𝓛.laws 𝓣 here) walk

pub deallocate_spec : {M : Type 1} → stated.statement M
unfolding tables_of
deallocate_spec 𝓤 𝓛 𝓜 𝓡 wired X Y LX LY g d dd met md =
    let E : El = record { row = X; laws = LX } in let Z : Al = record { row = Y; laws = LY; g = g; d = d; drops = dd } in
    let 𝓣 : Tables 𝓤 𝓛.H = tables_of 𝓤 𝓛.H 𝓜 (tables 𝓤 𝓛.H 𝓜 𝓡 𝓡.env) in
    entered 𝓤 𝓛.H (triple_of 𝓛 (ended E Z).signature (F.spec X Y g d dd 𝓛 𝓜.mem 𝓡.returns)) 𝓣.C 𝓣.Λ (#self (args E Z)) (here E Z) (code.unfolded 𝓤 𝓛.H 𝓜 𝓡 wired (X, (Y, tt)) d dd)
    (meets E Z 𝓛 𝓜.mem 𝓡.returns 𝓣 (met.deallocate dd))
