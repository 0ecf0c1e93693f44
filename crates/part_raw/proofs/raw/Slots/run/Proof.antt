-- `run` hands on the `&`s to the values side by side that a `&` to the slots reaches. Assumes `Logic`.
use mathlib.Core.Path.{◌≡◌, refl, sym, ap, subst}
use Prim.Native.Nat.{ℕ, ◌+◌, ◌*◌, ◌<◌, ◌^◌}
use native.Mathlib.Omega.{arith}
use mathlib.Core.List.{List, [], ◌∷◌}
use lib.ListN.{length, length-take, length-drop}
use lib.ListN.{drop as drop_l}
use seplogic.Ra.Ura.{Ura}
use base.Fml.{ftrue, flft}
use base.Logic.{SProp, ent, never, id⊢}
use contract.BorrowLft.{◌⊑◌}
use contract.Monad.{Fun, fact}
use contract.Running.{tables, tables_of}
use mir.MapTy.{inst_fn}
use mir.Syntax.{Fn, w64, named}
use mir.Val.{Val, vint, vptr}
use prog.Memory.{Memory}
use prog.Routine.{Routine}
use prog.Wp.{Env, WpFn, Tables}
use sound.WpLaws.{WpFn-mono}
use types.ByLocal.{alloc_all, pass_all, free_all, look_at, get, through, sets, sets_last, is, env}
use types.Part.{agg}
use types.Kit.{‵, raw, ◌⊛◌, at_ret, ◌$◌, ◌∵◌, !, qed, move, keep, drop, use1, split, join, fsplit, fjoin, feq_i, flt_l, flt_i, suffices, done}
use types.Logic.{Logic}
use types.Run.{look, stop, fld, load, size_word, of_opd, bin, and_then, no_more, first, blocks, exec, returns, enter}
use denote.Builtin.{usize, RefOf}
use denote.Slice.{slice_val, elements_shared}
use denote.Opens.{hide}
use denote.Exit.{yes}
use denote.Plain.{uint_vals, uint_Tells}
use denote.RattleType.{owns}
use denote.RawPtr.{RawPtr, in_a_block}
use denote.Memory.{hidden_shr}
use denote.Ref.{shr_vals, shr_Tells}
use denote.Signature.{plain, types_at}
use denote.Steps.{heard, nothing}
use denote.Triple.Clauses.{Clauses, Ended, closing}
use denote.Triple.Spec.{Meets, triple_of}
use denote.Triple.Table.{entered}
use denote.Triple.Walked.{says, Stays, stay_dropped, walk_of, ends_at, walked, Goes-dropped, walk_Meets}
use Rattle.std.specs.Prelude.{Some}
use Rattle.std.proofs.lemmas.List.{length-map}
use Rattle.core.proofs.mem.Param.{El, R, args, el_x}
use Rattle.core.proofs.ptr.Rows.{times_below}
use Rattle.core.proofs.slots.Leases.{uncapped}
use Rattle.core.proofs.slots.Lent.{pointer_in, pointer_out}
use Rattle.std_alloc.proofs.VecSteps.Shapes.{after}
use Rattle.part_raw.specs.Raw.{block_lends}
use Rattle.part_raw.specs.Rows.{IsRun}
use Rattle.part_raw.proofs.SlotSteps.{Sr, slots_d, sz, seen, run_seen}
use Rattle.part_raw.specs.contracts.raw.Slots.run as F
use Rattle.part_raw.specs.contracts.raw.Slots.run.Key.{name as #self}
use Rattle.part_raw.proofs.raw.Slots.run.Statement as stated
use Rattle.part_raw.proofs.raw.Slots.run.Code as code

module _ (E : El) where
  abbrev here : Fn
  here = inst_fn (args E) code.function

  abbrev ended : Ended
  ended = F.ended E.row

  abbrev stayed : Stays ended.signature.params ended.kept
  stayed = (stay_dropped (RefOf (0 ∷ []) tt (plain (λ _. Sr E)) (λ _. tt)) yes, (stay_dropped (plain (λ _. usize)) yes, (stay_dropped (plain (λ _. usize)) yes, tt)))

  module _ {M : Type 1} {𝓤 : Ura M} (𝓛 : Logic 𝓤) (at_mem : Memory → SProp 𝓤) (run : Routine → Fun 𝓤) (𝓣 : Tables 𝓤 𝓛.H) where
    open 𝓛 use {H}

    abbrev held : Clauses 𝓤 ended
    held = F.clauses E.row 𝓛 at_mem run

    abbrev Bound : Type 0
    Bound = (walk_of 𝓛 ended stayed held).Ghost

    abbrev spelled : Bound → Bound
    spelled z = ((z.0.0, z.0.1, z.0.2, z.0.3, (shr_vals z.0.3.0, (uint_vals w64 z.0.3.1.0, (uint_vals w64 z.0.3.1.1.0, tt)))), z.1)

    walk : (z : Bound) → z.0.3.1.0 < 2 ^ 64 → z.0.3.1.1.0 < 2 ^ 64
        → ent 𝓤 ((walk_of 𝓛 ended stayed held).pre (spelled z)) (WpFn 𝓤 H 𝓣.C 𝓣.Λ here ((walk_of 𝓛 ended stayed held).args (spelled z)) ((walk_of 𝓛 ended stayed held).post (spelled z)))
    walk z fits fits_count =
        let κ = z.0.0.0 in let κ₁ = z.0.0.1.0 in let q = z.0.1.0 in let q₁ = z.0.1.1.0 in
        let rb : ℕ = z.0.3.0.ref_ptr.0 in let ro : ℕ = z.0.3.0.ref_ptr.1 in let d : slots_d E = z.0.3.0.now in let i : ℕ = z.0.3.1.0 in let n : ℕ = z.0.3.1.1.0 in
        let Post : Val → SProp 𝓤 = (walk_of 𝓛 ended stayed held).post (spelled z) in
        let Asked : Type 0 = IsRun d.held i n in let s : ℕ = sz E in
        qed 𝓛 (((‵ (flft κ q) ⊛ ‵ (flft κ₁ q₁) ⊛ ‵ ftrue) ⊛ ‵ (owns (types_at ended.signature.params z.0.0) z.0.3 (spelled z).0.4)) ∷ (raw (fact 𝓤 (κ₁ ⊑ E.row.lives)) ⊛ raw (fact 𝓤 Asked)) ∷ []) ∵
        move ! (1 ∷ []) $ split ! $ drop ! $ heard ! Asked (λ asked.
        let xs : List (el_x E) = asked.1.0 in let filled = asked.1.1 in
        let long : length xs ≡ n = omega (arith, ap length filled, length-map xs Some, length-take n (drop_l i d.held), length-drop i d.held, asked.0) in
        split ! $ split ! $ move ! (2 ∷ []) $ fsplit ! $ fsplit ! $ drop ! $ move ! (1 ∷ []) $ fsplit ! $ drop ! $ move ! (1 ∷ []) $
        use1 𝓛 (‵ (hidden_shr RawPtr κ d.ptr rb (ro + 0)) ⊛ ‵ (block_lends (R E) d.ptr d.held κ)) (seen E 𝓛 κ d rb ro) $ split ! $ move ! (1 ∷ []) $
        in_a_block ! d.ptr (λ p. block_lends (R E) p d.held κ) (id⊢ 𝓤 (never 𝓤)) (λ b o at. fsplit ! $ flt_l ! (λ fit.
        let far : i * s < 2 ^ 64 = omega (arith, times_below i (length d.held) s (2 ^ 63) (omega (arith, asked.0)) fit) in
        use1 𝓛 (‵ (elements_shared (R E) xs b (i * s + o) κ)) (run_seen E 𝓛 κ b o d.held i n xs (omega (arith, asked.0)) filled) $
        keep ! (1 ∷ 3 ∷ 4 ∷ 0 ∷ []) $
        -- [a `&` to the pointer; the token; the other token; `&`s to the values]
        enter ! 𝓣.C 𝓣.Λ here (vptr rb ro ∷ vint w64 i ∷ vint w64 n ∷ []) _ $ alloc_all ! (λ l. pass_all ! refl ((tt, tt), ((tt, record { fits = fits }), ((tt, record { fits = fits_count }), tt))) $
        let En : Env 𝓤 H = env here.locals l in
        first ! $ blocks ! $ pointer_in ! tt d.ptr b o at rb (ro + 0) (λ q'.
        sets ! (of_opd ! (load ! (through ! refl (fld ! refl (stop !))) (look ! 0 refl))) refl (tt, tt) $ pointer_out ! tt d.ptr b o at rb (ro + 0) $
        sets ! (is ! (bin ! (get ! refl) (size_word !) (record { fits = subst (λ (k : ℕ). k < 2 ^ 64) (sym (uncapped i s far)) far })) (ap (vint w64) (uncapped i s far))) refl (tt, record { fits = far }) $
        sets ! (bin ! (get ! refl) (get ! refl) tt) refl (tt, tt) $
        sets_last ! (agg ! (and_then ! (get ! refl) (and_then ! (get ! refl) (no_more !)))) refl (tt, (tt, (record { fits = fits_count }, tt))) $
        exec ! 𝓣.C 𝓣.Λ En (after 1 here.body) (at_ret En Post) $ sets ! (of_opd ! (get ! refl)) refl (tt, (tt, (record { fits = fits_count }, tt))) $
        returns ! (look_at ! 0 refl) $ free_all ! refl $
        suffices ! _ (ends_at 𝓛 ended stayed held (spelled z) (slice_val (b, i * s + o) n) (record { ref_ptr = (b, i * s + o); now = xs }) (tt, (tt, (tt, tt))) (tt, (tt, (tt, tt)))) $ says ! filled $
        join ! $ move ! (1 ∷ []) $ hide ! $ flt_i ! (length xs * s) (2 ^ 63) (times_below (length xs) (length d.held) s (2 ^ 63) (omega (arith, asked.0, long)) fit) $ flt_i ! (length xs) (2 ^ 64) (omega (arith, long)) $ fjoin ! $
        feq_i ! (List Val) (slice_val (b, i * s + o) n ∷ []) (slice_val (b, i * s + o) (length xs) ∷ []) (ap (λ k. slice_val (b, i * s + o) k ∷ []) (sym long)) $ fjoin ! $ fjoin ! $
        nothing ! $ nothing ! $ fjoin ! $ nothing ! $ fjoin ! $ nothing ! $ fjoin ! $ keep ! (2 ∷ 0 ∷ 1 ∷ []) $ done !)))))

    meets : Meets 𝓛 ended.signature (WpFn 𝓤 H 𝓣.C 𝓣.Λ here) (closing 𝓛 ended held)
    meets =
        walk_Meets 𝓛 ended stayed (Goes-dropped 𝓛 2 (RefOf (0 ∷ []) tt (plain (λ _. Sr E)) (λ _. tt)) yes (λ κs x f. refl), (Goes-dropped 𝓛 2 (plain (λ _. usize)) yes (λ κs x f. refl), (Goes-dropped 𝓛 2 (plain (λ _. usize)) yes (λ κs x f. refl), tt))) held
        (WpFn 𝓤 H 𝓣.C 𝓣.Λ here) (WpFn-mono 𝓤 H 𝓛.laws 𝓣 here)
        (walked 𝓛 ended stayed held (WpFn 𝓤 H 𝓣.C 𝓣.Λ here) (λ κs. (shr_vals, (uint_vals w64, (uint_vals w64, tt)))) (λ κs. (shr_Tells (named 0) κs.0 (Sr E), (uint_Tells w64, (uint_Tells w64, tt))))
        (λ κs qs bounds a g are. walk ((κs, qs, bounds, a, (shr_vals a.0, (uint_vals w64 a.1.0, (uint_vals w64 a.1.1.0, tt)))), g) are.1.0.1 are.1.1.0.1))

pub run_spec : {M : Type 1} → stated.statement M
unfolding tables_of
run_spec 𝓤 𝓛 𝓜 𝓡 wired X L =
    let E : El = record { row = X; laws = L } in
    let 𝓣 : Tables 𝓤 𝓛.H = tables_of 𝓤 𝓛.H 𝓜 (tables 𝓤 𝓛.H 𝓜 𝓡 𝓡.env) in
    entered 𝓤 𝓛.H (triple_of 𝓛 (F.signature X) (F.spec X 𝓛 𝓜.mem 𝓡.returns)) 𝓣.C 𝓣.Λ (#self (args E)) (here E) (code.unfolded 𝓤 𝓛.H 𝓜 𝓡 wired (X, tt))
    (meets E 𝓛 𝓜.mem 𝓡.returns 𝓣)
