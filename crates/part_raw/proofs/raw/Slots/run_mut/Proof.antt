-- `run_mut` lends the values side by side, and the slots follow them. Assumes `Logic`.
use mathlib.Core.Path.{◌≡◌, refl, sym, ap, subst, ◌∙◌}
use Prim.Native.Nat.{ℕ, ◌+◌, ◌*◌, ◌<◌, ◌≤◌, ◌^◌}
use native.Mathlib.Omega.{arith}
use mathlib.Core.List.{List, [], ◌∷◌, ◌++◌, map}
use lib.ListN.{length, take, length-take, length-drop}
use lib.ListN.{drop as drop_l}
use lib.Seq.{take_at as take_front}
use seplogic.Ra.Ura.{Ura}
use base.Fraction.{full_share}
use base.Fml.{GName, Fml, ftrue, fsep, flft}
use base.Logic.{SProp, ent, sep}
use contract.BorrowLft.{◌⊑◌}
use contract.Monad.{Fun, fact}
use contract.Running.{tables, tables_of}
use mir.MapTy.{inst_fn}
use mir.Syntax.{Fn, w64, named}
use mir.Val.{Val, vint, vptr}
use prog.Memory.{Memory}
use prog.Routine.{Routine}
use prog.Wp.{Env, WpFn, Tables}
use sound.WpLaws.{WpFn-mono}
use types.ByLocal.{alloc_all, pass_all, free_all, look_at, get, through, sets, sets_last, is, env}
use types.Kit.{‵, raw, ◌⊛◌, some, later, at_ret, ◌$◌, ◌∵◌, !, qed, move, keep, drop, use1, use2, pick, await, split, split3, join, group, frame, rewrite, fsplit, fsplit3, fjoin, fpack, suffices, done}
use types.Logic.{Logic, sem}
use types.Part.{whole, sub, look_in, agg}
use types.Run.{stop, fld, load, size_word, of_opd, bin, and_then, no_more, first, blocks, exec, returns, enter}
use types.SemTy.{cells}
use denote.Array.{Array}
use denote.Builtin.{usize, RefMutOf}
use denote.Exit.{yes, no}
use denote.Follow.{follows}
use denote.FollowSlice.{lends_Elements}
use denote.Memory.{cell_at, part_of, mem}
use denote.Plain.{uint_vals, uint_Tells}
use denote.RattleType.{owns}
use denote.RawPtr.{block_ptr}
use denote.Ref.{mut_vals, mut_Tells}
use denote.Signature.{plain, types_at}
use denote.Slice.{MutSlice, slice_val}
use denote.Steps.{heard, nothing}
use denote.Triple.Clauses.{Clauses, Ended, closing}
use denote.Triple.Spec.{Meets, triple_of}
use denote.Triple.Table.{entered}
use denote.Triple.Walked.{says, Stays, stay_dropped, walk_of, ends_at, walked, Goes-dropped, Goes-spent_ref, walk_Meets}
use Rattle.std.specs.List.{refill}
use Rattle.std.specs.Prelude.{Some}
use Rattle.std.proofs.lemmas.List.{length-map}
use Rattle.core.proofs.mem.Param.{El, R, args, el_x}
use Rattle.core.proofs.ptr.Rows.{times_below}
use Rattle.core.proofs.slots.Leases.{uncapped}
use Rattle.std_alloc.proofs.RcSteps.{word}
use Rattle.std_alloc.proofs.VecSteps.Shapes.{after}
use Rattle.part_raw.specs.Raw.{slots_own}
use Rattle.part_raw.specs.RawLends.{with_run}
use Rattle.part_raw.specs.Rows.{IsRun, window, put_run}
use Rattle.part_raw.proofs.Rows.{length-put_run, put_run-spliced}
use Rattle.part_raw.proofs.RunSteps.{around, run_out, run_in, to_cells, of_cells}
use Rattle.part_raw.proofs.SlotSteps.{Sr, Slot, slots_d, sz, slots_made, opened}
use Rattle.part_raw.specs.contracts.raw.Slots.run_mut as F
use Rattle.part_raw.specs.contracts.raw.Slots.run_mut.Key.{name as #self}
use Rattle.part_raw.proofs.raw.Slots.run_mut.Statement as stated
use Rattle.part_raw.proofs.raw.Slots.run_mut.Code as code

module _ (E : El) {M : Type 1} {𝓤 : Ura M} (𝓛 : Logic 𝓤) (rb ro b o : ℕ) (d : slots_d E) (i n : ℕ) (xs : List (el_x E)) where
  -- all but the run
  abbrev Rest : Fml
  Rest = fsep (around E 𝓛 b o d.held i n) (cell_at full_share (Sr E).mir (word (block_ptr b o) ∷ []) rb ro)

  abbrev new : List (el_x E) → slots_d E
  new ws = with_run d i (refill n xs ws)

  back : d.ptr ≡ block_ptr b o → length d.held * sz E < 2 ^ 63 → i + n ≤ length d.held → length xs ≡ n → (ws : List (el_x E)) → length ws ≡ length xs
      → ent 𝓤 (sep 𝓤 (sem 𝓛 (cells (mem (R E)) ws b (i * sz E + o))) (sem 𝓛 Rest)) (sem 𝓛 ((mem (Sr E)).own_at (new ws) rb ro))
  unfolding part_of
  back at fit within long ws same =
      let all : refill n xs ws ≡ ws = take_front ws (drop_l (length ws) xs) n (same ∙ long) in
      let count : n ≡ length (map Some ws) = omega (arith, length-map ws Some) in
      let spliced : take i d.held ++ (map Some ws ++ drop_l (i + n) d.held) ≡ (new ws).held =
      sym (ap (λ (l : List (el_x E)). put_run d.held i l) all ∙ put_run-spliced d.held i ws n (omega (arith, same, long)) within) in
      let fit' : length (new ws).held * sz E < 2 ^ 63 = subst (λ (k : ℕ). k * sz E < 2 ^ 63) (sym (length-put_run d.held i (refill n xs ws))) fit in
      qed 𝓛 (‵ (cells (mem (R E)) ws b (i * sz E + o)) ∷ ‵ Rest ∷ []) ∵ use1 𝓛 (‵ (slots_own (R E) b (i * sz E + o) (map Some ws))) (of_cells E 𝓛 b ws (i * sz E + o)) $
      move ! (1 ∷ []) $ fsplit ! $ move ! (2 ∷ 0 ∷ []) $
      use2 𝓛 (‵ (slots_own (R E) b o (take i d.held ++ (map Some ws ++ drop_l (i + n) d.held)))) (run_in E 𝓛 b o d.held i n within (map Some ws) count) $
      rewrite ! 0 (λ (l : List (Slot E)). ‵ (slots_own (R E) b o l)) spliced refl $
      slots_made E ! (new ws) b o at fit' $ move ! (1 ∷ 0 ∷ []) $ fjoin ! $
      fpack ! (List Val) (λ us. fsep (cell_at full_share (Sr E).mir us rb ro) ((Sr E).own_val (new ws) us)) (word (block_ptr b o) ∷ []) $ done !

module _ (E : El) where
  abbrev here : Fn
  here = inst_fn (args E) code.function

  abbrev ended : Ended
  ended = F.ended E.row

  abbrev stayed : Stays ended.signature.params ended.kept
  stayed = (stay_dropped (RefMutOf (0 ∷ []) tt (plain (λ _. Sr E)) (λ _. tt)) no, (stay_dropped (plain (λ _. usize)) yes, (stay_dropped (plain (λ _. usize)) yes, tt)))

  module _ {M : Type 1} {𝓤 : Ura M} (𝓛 : Logic 𝓤) (at_mem : Memory → SProp 𝓤) (run : Routine → Fun 𝓤) (𝓣 : Tables 𝓤 𝓛.H) where
    open 𝓛 use {H}

    abbrev held : Clauses 𝓤 ended
    held = F.clauses E.row 𝓛 at_mem run

    abbrev Bound : Type 0
    Bound = (walk_of 𝓛 ended stayed held).Ghost

    abbrev spelled : Bound → Bound
    spelled z = ((z.0.0, z.0.1, z.0.2, z.0.3, (mut_vals z.0.3.0, (uint_vals w64 z.0.3.1.0, (uint_vals w64 z.0.3.1.1.0, tt)))), z.1)

    walk : (z : Bound) → z.0.3.1.0 < 2 ^ 64 → z.0.3.1.1.0 < 2 ^ 64
        → ent 𝓤 ((walk_of 𝓛 ended stayed held).pre (spelled z)) (WpFn 𝓤 H 𝓣.C 𝓣.Λ here ((walk_of 𝓛 ended stayed held).args (spelled z)) ((walk_of 𝓛 ended stayed held).post (spelled z)))
    walk z fits fits_count =
        let κ = z.0.0.0 in let κ₁ = z.0.0.1.0 in let q = z.0.1.0 in let q₁ = z.0.1.1.0 in
        let rb : ℕ = z.0.3.0.ref_ptr.0 in let ro : ℕ = z.0.3.0.ref_ptr.1 in let γ : GName = z.0.3.0.ghost_name in let d : slots_d E = z.0.3.0.now in let i : ℕ = z.0.3.1.0 in let n : ℕ = z.0.3.1.1.0 in
        let Post : Val → SProp 𝓤 = (walk_of 𝓛 ended stayed held).post (spelled z) in
        let Asked : Type 0 = IsRun d.held i n in let s : ℕ = sz E in
        qed 𝓛 (((‵ (flft κ q) ⊛ ‵ (flft κ₁ q₁) ⊛ ‵ ftrue) ⊛ ‵ (owns (types_at ended.signature.params z.0.0) z.0.3 (spelled z).0.4)) ∷ (raw (fact 𝓤 (κ₁ ⊑ E.row.lives)) ⊛ raw (fact 𝓤 Asked)) ∷ []) ∵
        move ! (1 ∷ []) $ split ! $ drop ! $ heard ! Asked (λ asked.
        let xs : List (el_x E) = asked.1.0 in let filled = asked.1.1 in let within = asked.0 in
        let long : length xs ≡ n = omega (arith, ap length filled, length-map xs Some, length-take n (drop_l i d.held), length-drop i d.held, asked.0) in
        split ! $ split ! $ move ! (2 ∷ []) $ fsplit ! $ fsplit3 ! $ keep ! (1 ∷ 2 ∷ 4 ∷ 5 ∷ []) $
        enter ! 𝓣.C 𝓣.Λ here (vptr rb ro ∷ vint w64 i ∷ vint w64 n ∷ []) _ $ alloc_all ! (λ l. pass_all ! refl ((tt, tt), ((tt, record { fits = fits }), ((tt, record { fits = fits_count }), tt))) $
        let En : Env 𝓤 H = env here.locals l in
        opened E ! tt d rb ro (λ b o at fit.
        let far : i * s < 2 ^ 64 = omega (arith, times_below i (length d.held) s (2 ^ 63) (omega (arith, asked.0)) fit) in
        first ! $ blocks ! $
        sets ! (of_opd ! (load ! (through ! refl (fld ! refl (stop !))) (look_in ! 1 (sub ! 0 refl (whole !))))) refl (tt, tt) $
        sets ! (is ! (bin ! (get ! refl) (size_word !) (record { fits = subst (λ (k : ℕ). k < 2 ^ 64) (sym (uncapped i s far)) far })) (ap (vint w64) (uncapped i s far))) refl (tt, record { fits = far }) $
        sets ! (bin ! (get ! refl) (get ! refl) tt) refl (tt, tt) $
        sets_last ! (agg ! (and_then ! (get ! refl) (and_then ! (get ! refl) (no_more !)))) refl (tt, (tt, (record { fits = fits_count }, tt))) $
        exec ! 𝓣.C 𝓣.Λ En (after 1 here.body) (at_ret En Post) $ sets ! (of_opd ! (get ! refl)) refl (tt, (tt, (record { fits = fits_count }, tt))) $
        let place = i * s + o in let way = back E 𝓛 rb ro b o d i n xs at fit within long in
        let roomy : length xs < 2 ^ 64 = omega arith in let fitting : length xs * s < 2 ^ 63 = times_below (length xs) (length d.held) s (2 ^ 63) (omega arith) fit in
        use1 𝓛 (‵ (slots_own (R E) b place (window i n d.held)) ⊛ ‵ (around E 𝓛 b o d.held i n)) (run_out E 𝓛 b o d.held i n within) $ split ! $
        rewrite ! 0 (λ (l : List (Slot E)). ‵ (slots_own (R E) b place l)) filled refl $ use1 𝓛 (‵ (cells (mem (R E)) xs b place)) (to_cells E 𝓛 b xs place) $
        -- [the values; the other slots; the pointer's cell; the open borrow; observed; authority; the other token]
        move ! (1 ∷ 2 ∷ []) $ fjoin ! $ move ! (2 ∷ 3 ∷ 4 ∷ 1 ∷ 0 ∷ []) $ group ! 5 $
        use1 𝓛 (later (some (λ (δ : GName). ‵ ((MutSlice (named 0) κ (R E)).own_val (record { ref_ptr = (b, place); ghost_name = δ; now = xs }) (slice_val (b, place) (length xs) ∷ [])) ⊛ ‵ (flft κ q) ⊛ ‵ (follows (Sr E) (Array (R E) 0) γ δ (new E 𝓛 rb ro b o d i n xs)))))
        (lends_Elements 𝓛 (Sr E) (R E) (new E 𝓛 rb ro b o d i n xs) (named 0) κ q rb ro b place γ xs (roomy, fitting) (sem 𝓛 (Rest E 𝓛 rb ro b o d i n xs)) way ((Sr E).coded.code d) ((Sr E).coded.code d)) $
        await ! tt $ pick ! (λ δ. split3 ! $ returns ! (look_at ! 0 refl) $ free_all ! refl $
        rewrite ! 0 (λ (k : ℕ). ‵ ((MutSlice (named 0) κ (R E)).own_val (record { ref_ptr = (b, place); ghost_name = δ; now = xs }) (slice_val (b, place) k ∷ []))) long refl $
        suffices ! _ (ends_at 𝓛 ended stayed held (spelled z) (slice_val (b, place) n) (record { ref_ptr = (b, place); ghost_name = δ; now = xs }) (tt, (tt, (tt, tt))) (tt, (tt, (tt, tt)))) $
        nothing ! $ nothing ! $ fjoin ! $ nothing ! $ fjoin ! $ nothing ! $ fjoin ! $ join ! $ move ! (1 ∷ 3 ∷ []) $ join ! $ join ! $ frame ! $ says ! filled $ keep ! (0 ∷ []) $ done !))))

    meets : Meets 𝓛 ended.signature (WpFn 𝓤 H 𝓣.C 𝓣.Λ here) (closing 𝓛 ended held)
    meets =
        walk_Meets 𝓛 ended stayed (Goes-spent_ref 𝓛 2 (0 ∷ []) tt (plain (λ _. Sr E)), (Goes-dropped 𝓛 2 (plain (λ _. usize)) yes (λ κs x f. refl), (Goes-dropped 𝓛 2 (plain (λ _. usize)) yes (λ κs x f. refl), tt))) held (WpFn 𝓤 H 𝓣.C 𝓣.Λ here) (WpFn-mono 𝓤 H 𝓛.laws 𝓣 here)
        (walked 𝓛 ended stayed held (WpFn 𝓤 H 𝓣.C 𝓣.Λ here) (λ κs. (mut_vals, (uint_vals w64, (uint_vals w64, tt)))) (λ κs. (mut_Tells (named 0) κs.0 (Sr E), (uint_Tells w64, (uint_Tells w64, tt))))
        (λ κs qs bounds a g are. walk ((κs, qs, bounds, a, (mut_vals a.0, (uint_vals w64 a.1.0, (uint_vals w64 a.1.1.0, tt)))), g) are.1.0.1 are.1.1.0.1))

pub run_mut_spec : {M : Type 1} → stated.statement M
unfolding tables_of
run_mut_spec 𝓤 𝓛 𝓜 𝓡 wired X L =
    let E : El = record { row = X; laws = L } in
    let 𝓣 : Tables 𝓤 𝓛.H = tables_of 𝓤 𝓛.H 𝓜 (tables 𝓤 𝓛.H 𝓜 𝓡 𝓡.env) in
    entered 𝓤 𝓛.H (triple_of 𝓛 (F.signature X) (F.spec X 𝓛 𝓜.mem 𝓡.returns)) 𝓣.C 𝓣.Λ (#self (args E)) (here E) (code.unfolded 𝓤 𝓛.H 𝓜 𝓡 wired (X, tt))
    (meets E 𝓛 𝓜.mem 𝓡.returns 𝓣)
