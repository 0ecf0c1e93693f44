-- `give_out` takes one node's block out of the set. Assumes `Logic`.
use Rattle.std.proofs.Common.{◌≡◌, ℕ, List, [], ◌∷◌, ◌++◌, refl, sym, subst}
use base.Logic.{SProp, ent, id⊢, emp, never, fst∗}
use base.Fml.{Lft, ftrue, fat, flft}
use base.Fraction.{full_share}
use mir.Raw.{raw as bare}
use mir.Syntax.{a_type}
use mir.Val.{Val, vptr}
use mir.MapTy.{inst_fn}
use prog.Wp.{WpFn}
use types.Logic.{sem}
use types.Kit.{‵, raw, ◌⊛◌, ◌$◌, ◌∵◌, !, qed, by, move, keep, drop, split, split3, join, fsplit, fsplit3, fjoin, fjoin3, suffices, use0, use1, rewrite, feq_i}
use types.Run.{stop, fld, of_opd, and_then, no_more, returns, enter}
use types.ByLocal.{alloc_all, pass_all, free_all, look_at, get, get_in, sets, take_at, give_at}
use types.Part.{agg, sub, whole}
use contract.Monad.{fact, fact_i}
use contract.BorrowLft.{◌⊑◌}
use contract.Running.{tables}
use denote.Exit.{yes}
use denote.Memory.{lone}
use denote.RattleType.{RattleType, owns}
use denote.RawPtr.{Ptr, block_ptr, null_ptr, in_a_block}
use denote.Signature.{types_at, plain}
use denote.Steps.{nothing, heard, opens, closes}
use denote.Param.{param, layout, layouts}
use denote.Triple.Walked.{Stays, stay_dropped, stay_ref, walk_of, Goes-ref, Goes-dropped}
use Rattle.core.proofs.alloc.Calls.{handle_tells}
use Rattle.std.proofs.raw_atomic.Walks.{proved_at, leaves}
use Rattle.std.specs.Prelude.{Some, IsSome}
use Rattle.std.specs.contracts.alloc.Global as global
use Rattle.std.proofs.alloc.Global.TheLaws as global_laws
use Rattle.std.specs.contracts.impls.GlobalAllocator.TheImpl.{ghosts}
use Rattle.std_alloc.proofs.RcSteps.{word, word-Good}
use Rattle.std_alloc.specs.Box.Ownership.{box_owns}
use Rattle.ttree_node.specs.Held.{token, node_at, without, held_owns}
use Rattle.raw_box.proofs.Values.{two, RawBox, raw_good, raw_in, heap}
use Rattle.ttree_node.proofs.Cuts.{cut_at}
use Rattle.ttree_node.proofs.Memory.{place_read, One, node_cut}
use Rattle.ttree_node.specs.contracts.nodes.Nodes as nodes
use Rattle.ttree_node.specs.contracts.nodes.NodePlace as place
use Rattle.ttree_node.specs.contracts.nodes.Nodes.give_out.{ended, clauses}
use Rattle.ttree_node.specs.contracts.nodes.Nodes.give_out.Key.{name as #self}
use Rattle.ttree_node.proofs.nodes.Nodes.give_out.Statement.{statement}
use Rattle.ttree_node.proofs.nodes.Nodes.give_out.Code as code

pub give_out_spec : {M : Type 1} → statement M
give_out_spec 𝓤 𝓛 𝓜 𝓡 wired T L =
    let H = 𝓛.H in let 𝓣 = tables 𝓤 H 𝓜 𝓡 𝓡.env in let R : RattleType = param 0 T in let En = ended T in let c = clauses T 𝓛 𝓜.mem 𝓡.returns in
    let inst = layouts (a_type ∷ []) (T, tt) in let fn = inst_fn inst code.function in let N : RattleType = nodes.the_row R in let P : RattleType = place.the_row in let Z : RattleType = global.the_row in let LZ = global_laws.the_row_laws in let B : RattleType = RawBox R Z LZ ghosts in
    let hs : Stays En.signature.params En.kept = (stay_ref (0 ∷ []) tt (plain (λ _. N)), (stay_dropped (plain (λ _. P)) yes, (stay_dropped (plain (λ _. Z)) yes, tt))) in
    proved_at 𝓛 En hs c 𝓜 𝓡 (Goes-ref 𝓛 2 0 tt (plain (λ _. N)), (Goes-dropped 𝓛 2 (plain (λ _. P)) yes (λ κs x f. refl), (Goes-dropped 𝓛 2 (plain (λ _. Z)) yes (λ κs x f. refl), tt))) (#self inst) fn (code.unfolded 𝓤 H 𝓜 𝓡 wired (T, tt)) (λ z are.
    let κs = z.0.0 in let qs = z.0.1 in let Post : Val → SProp 𝓤 = (walk_of 𝓛 En hs c).post z in let Run : List Val → SProp 𝓤 = λ ws. WpFn 𝓤 H 𝓣.C 𝓣.Λ fn ws Post in
    let κ : Lft = κs.0 in let d = z.0.3.0.now in let p : Ptr = z.0.3.1.0.at in let a = z.0.3.1.1.0 in let b : ℕ = z.0.3.0.ref_ptr.0 in let o : ℕ = z.0.3.0.ref_ptr.1 in
    let toks = ‵ (flft κ qs.0) ⊛ ‵ (flft κs.1.0 qs.1.0) ⊛ ‵ ftrue in
    qed 𝓛 ((toks ⊛ ‵ (owns (types_at En.signature.params κs) z.0.3 z.0.4)) ∷ raw (fact 𝓤 (κs.1.0 ⊑ T.lives)) ∷ raw (fact 𝓤 (IsSome (node_at p d.held))) ∷ []) ∵
    move ! (2 ∷ []) $ heard ! (IsSome (node_at p d.held)) (λ asked. let cut = cut_at p d.held asked in let x = cut.node in
    keep ! (0 ∷ []) $ split ! $ split3 ! $ move ! (3 ∷ []) $ fsplit ! $ fsplit3 ! $ drop ! $ move ! (2 ∷ []) $ fsplit ! $ place_read ! p z.0.4.1.0 (λ e1. fsplit ! $
    handle_tells (heap R Z LZ ghosts) ! a z.0.4.1.1.0 (λ h eh fits. move ! (1 ∷ []) $ drop ! $
    let args : z.0.4.0 ++ (z.0.4.1.0 ++ (z.0.4.1.1.0 ++ [])) ≡ vptr b o ∷ word p ∷ h ∷ [] = λ i. are.0.0 i ++ (e1 i ++ (eh i ++ [])) in
    suffices ! (Run (vptr b o ∷ word p ∷ h ∷ [])) (subst (λ (us : List Val). ent 𝓤 (Run (vptr b o ∷ word p ∷ h ∷ [])) (Run us)) (sym args) (id⊢ 𝓤 (Run (vptr b o ∷ word p ∷ h ∷ [])))) $
    move ! (1 ∷ 2 ∷ 3 ∷ 0 ∷ []) $
    enter ! 𝓣.C 𝓣.Λ fn (vptr b o ∷ word p ∷ h ∷ []) Post $ alloc_all ! (λ l. pass_all ! refl ((tt, tt), (word-Good [] p, (fits, tt))) $
    opens ! tt N {h = d} b o (λ vs. move ! (1 ∷ []) $ fsplit ! $ move ! (1 ∷ []) $ rewrite ! 0 (λ m. ‵ (held_owns R m)) cut.whole refl $
    use1 𝓛 (‵ (One R 𝓛 (p, x)) ⊛ ‵ (held_owns R (cut.before ++ cut.after))) (node_cut R 𝓛 cut.before (p, x) cut.after) $ split ! $
    in_a_block ! p (λ p'. box_owns token R p' x) (fst∗ 𝓤 (never 𝓤) (sem 𝓛 (token (bare (lone R.mir)) null_ptr))) (λ pb po e.
    take_at ! 2 $ rewrite ! 0 (λ (p' : Ptr). ‵ (fat full_share (layout P) (l 2) 0 (word p'))) e refl $ give_at ! 2 $
    let d' : N.Denot = record { mark = d.mark; held = without p d.held } in let out : B.Denot = record { at = block_ptr pb po; alloc = a; value = x } in let w : Val = two (vptr pb po) h in
    -- [the block; the other nodes; the mark; its cell; the open borrow, in three entries; the handle]
    move ! (1 ∷ []) $ rewrite ! 0 (λ m. ‵ (held_owns R m)) (sym cut.rest) refl $ move ! (2 ∷ 0 ∷ []) $ fjoin ! $ move ! (2 ∷ 0 ∷ 3 ∷ 4 ∷ 5 ∷ []) $ closes ! tt N d' vs b o $ feq_i ! (List Val) z.0.4.0 (vptr b o ∷ []) are.0.0 $ fjoin3 ! $
    -- [the set; the token; the block; the handle]
    move ! (2 ∷ 3 ∷ []) $ raw_in R Z LZ ghosts ! pb po h a x $
    sets ! (of_opd ! (get ! refl)) refl (tt, tt) $ sets ! (of_opd ! (get_in ! (fld ! refl (stop !)) (sub ! 0 refl (whole !)))) refl (tt, tt) $ sets ! (agg ! (and_then ! (get ! refl) (and_then ! (get ! refl) (no_more !)))) refl (raw_good R Z LZ ghosts pb po h fits) $
    -- [the block; the set; two tokens; nothing]
    move ! (2 ∷ 3 ∷ 4 ∷ []) $ move ! (1 ∷ 2 ∷ []) $ join ! $ move ! (1 ∷ 0 ∷ []) $ join ! $
    move ! (2 ∷ []) $ nothing ! $ nothing ! $ fjoin ! $ nothing ! $ fjoin ! $ move ! (1 ∷ 0 ∷ []) $ fjoin ! $
    -- [the set; the tokens; the block]
    use0 𝓛 (raw (fact 𝓤 (node_at p d.held ≡ Some x))) (fact_i 𝓤 (node_at p d.held ≡ Some x) (emp 𝓤) cut.found) $ use0 𝓛 (raw (fact 𝓤 (d'.held ≡ without p d.held))) (fact_i 𝓤 (d'.held ≡ without p d.held) (emp 𝓤) refl) $ join ! $
    returns ! (look_at ! 0 refl) $ free_all ! refl $ keep ! (2 ∷ 1 ∷ 3 ∷ 0 ∷ []) $ by ! (leaves 𝓛 En hs c z w out (d', (tt, (tt, tt))) (tt, (tt, (tt, tt)))))))))))
