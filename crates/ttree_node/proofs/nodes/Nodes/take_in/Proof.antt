-- `take_in` adds a block to the set. Assumes `Logic`.
use Rattle.std.proofs.Common.{◌≡◌, ℕ, ◌<◌, List, [], ◌∷◌, ◌++◌, refl, sym, subst}
use base.Logic.{SProp, ent, id⊢, emp}
use base.Fml.{Lft, ftrue, flft}
use mir.Syntax.{a_type}
use mir.Val.{Val, vptr}
use mir.MapTy.{inst_fn}
use prog.Memory.{size}
use prog.Wp.{WpFn}
use types.Kit.{‵, raw, ◌⊛◌, ◌$◌, ◌∵◌, !, qed, by, move, keep, drop, split, split3, join, fsplit, fsplit3, fjoin, fjoin3, suffices, use0, feq_i}
use types.Run.{stop, fld, of_opd, and_then, no_more, returns, enter}
use types.ByLocal.{alloc_all, pass_all, free_all, look_at, get, get_in, sets}
use types.Part.{agg, sub, whole}
use contract.Monad.{fact, fact_i}
use contract.BorrowLft.{◌⊑◌}
use contract.Running.{tables}
use denote.Exit.{no}
use denote.RattleType.{RattleType, owns}
use denote.RawPtr.{Ptr, block_ptr}
use denote.Signature.{types_at, plain}
use denote.Steps.{nothing, heard, opens, closes}
use denote.Param.{param, layout, layouts}
use denote.Triple.Walked.{Stays, stay_dropped, stay_ref, walk_of, Goes-ref}
use Rattle.core.proofs.alloc.Calls.{Goes-blank}
use Rattle.std.proofs.raw_atomic.Walks.{proved_at, leaves}
use Rattle.std.specs.Prelude.{None}
use Rattle.std.specs.contracts.alloc.Global as global
use Rattle.std.proofs.alloc.Global.TheLaws as global_laws
use Rattle.std.specs.contracts.impls.GlobalAllocator.TheImpl.{ghosts}
use Rattle.std_alloc.proofs.RcSteps.{word-Good}
use Rattle.ttree_node.specs.Held.{node_at}
use Rattle.raw_box.proofs.Values.{two, RawBox, raw_good, raw_out}
use Rattle.ttree_node.proofs.Fresh.{learned, fresh}
use Rattle.ttree_node.proofs.Memory.{place_made}
use Rattle.ttree_node.specs.contracts.nodes.Nodes as nodes
use Rattle.ttree_node.specs.contracts.nodes.Nodes.take_in.{ended, clauses}
use Rattle.ttree_node.specs.contracts.nodes.Nodes.take_in.Key.{name as #self}
use Rattle.ttree_node.proofs.nodes.Nodes.take_in.Statement.{statement}
use Rattle.ttree_node.proofs.nodes.Nodes.take_in.Code as code

pub take_in_spec : {M : Type 1} → statement M
take_in_spec 𝓤 𝓛 𝓜 𝓡 wired T L =
    let H = 𝓛.H in let 𝓣 = tables 𝓤 H 𝓜 𝓡 𝓡.env in let R : RattleType = param 0 T in let En = ended T in let c = clauses T 𝓛 𝓜.mem 𝓡.returns in
    let inst = layouts (a_type ∷ []) (T, tt) in let fn = inst_fn inst code.function in let N : RattleType = nodes.the_row R in let Z : RattleType = global.the_row in let LZ = global_laws.the_row_laws in let B : RattleType = RawBox R Z LZ ghosts in
    let hs : Stays En.signature.params En.kept = (stay_ref (0 ∷ []) tt (plain (λ _. N)), (stay_dropped (plain (λ _. B)) no, tt)) in
    proved_at 𝓛 En hs c 𝓜 𝓡 (Goes-ref 𝓛 2 0 tt (plain (λ _. N)), (Goes-blank 𝓛 2 (plain (λ _. B)) no (λ κs x f. tt), tt)) (#self inst) fn (code.unfolded 𝓤 H 𝓜 𝓡 wired (T, tt)) (λ z are.
    let κs = z.0.0 in let qs = z.0.1 in let Post : Val → SProp 𝓤 = (walk_of 𝓛 En hs c).post z in let Run : List Val → SProp 𝓤 = λ ws. WpFn 𝓤 H 𝓣.C 𝓣.Λ fn ws Post in
    let κ : Lft = κs.0 in let d = z.0.3.0.now in let v = z.0.3.1.0 in let x = v.value in let b : ℕ = z.0.3.0.ref_ptr.0 in let o : ℕ = z.0.3.0.ref_ptr.1 in
    let toks = ‵ (flft κ qs.0) ⊛ ‵ (flft κs.1.0 qs.1.0) ⊛ ‵ ftrue in
    qed 𝓛 ((toks ⊛ ‵ (owns (types_at En.signature.params κs) z.0.3 z.0.4)) ∷ raw (fact 𝓤 (κs.1.0 ⊑ T.lives)) ∷ raw (fact 𝓤 (0 < size (layout T))) ∷ []) ∵
    move ! (2 ∷ []) $ heard ! (0 < size (layout T)) (λ wide.
    keep ! (0 ∷ []) $ split ! $ split3 ! $ move ! (3 ∷ []) $ fsplit ! $ fsplit3 ! $ drop ! $ move ! (2 ∷ []) $ fsplit ! $ raw_out R Z LZ ghosts ! v z.0.4.1.0 (λ pb po h e ws fits. move ! (1 ∷ []) $ drop ! $ move ! (1 ∷ []) $ drop ! $
    let p : Ptr = block_ptr pb po in let w : Val = two (vptr pb po) h in
    let args : z.0.4.0 ++ (z.0.4.1.0 ++ []) ≡ vptr b o ∷ w ∷ [] = λ i. are.0.0 i ++ (ws i ++ []) in
    suffices ! (Run (vptr b o ∷ w ∷ [])) (subst (λ (us : List Val). ent 𝓤 (Run (vptr b o ∷ w ∷ [])) (Run us)) (sym args) (id⊢ 𝓤 (Run (vptr b o ∷ w ∷ [])))) $
    -- [the block; obs; the borrow; two tokens; nothing]
    move ! (1 ∷ 2 ∷ 3 ∷ 0 ∷ []) $
    enter ! 𝓣.C 𝓣.Λ fn (vptr b o ∷ w ∷ []) Post $ alloc_all ! (λ l. pass_all ! refl ((tt, tt), (raw_good R Z LZ ghosts pb po h fits, tt)) $
    opens ! tt N {h = d} b o (λ vs. move ! (1 ∷ []) $ fsplit ! $ move ! (6 ∷ 1 ∷ []) $
    learned ! (node_at p d.held ≡ None) (fresh T 𝓛 𝓜 wide p x d.held) (λ none. fjoin ! $ move ! (1 ∷ 0 ∷ []) $ fjoin ! $ move ! (1 ∷ []) $
    let d' : N.Denot = record { mark = d.mark; held = (p, x) ∷ d.held } in
    closes ! tt N d' vs b o $ feq_i ! (List Val) z.0.4.0 (vptr b o ∷ []) are.0.0 $ fjoin3 ! $
    sets ! (of_opd ! (get_in ! (fld ! refl (stop !)) (sub ! 0 refl (whole !)))) refl (tt, tt) $ sets ! (of_opd ! (get ! refl)) refl (tt, tt) $ sets ! (agg ! (and_then ! (get ! refl) (no_more !))) refl (word-Good [] p) $
    -- [the set; two tokens; nothing]
    nothing ! $ nothing ! $ fjoin ! $ move ! (1 ∷ 0 ∷ []) $ fjoin ! $ move ! (2 ∷ 3 ∷ []) $ join ! $ move ! (2 ∷ 0 ∷ []) $ join ! $
    place_made ! p $ use0 𝓛 (raw (fact 𝓤 (node_at p d.held ≡ None))) (fact_i 𝓤 (node_at p d.held ≡ None) (emp 𝓤) none) $ use0 𝓛 (raw (fact 𝓤 (d'.held ≡ (p, x) ∷ d.held))) (fact_i 𝓤 (d'.held ≡ (p, x) ∷ d.held) (emp 𝓤) refl) $ join ! $
    returns ! (look_at ! 0 refl) $ free_all ! refl $ keep ! (2 ∷ 3 ∷ 1 ∷ 0 ∷ []) $ by ! (leaves 𝓛 En hs c z (Rattle.std_alloc.proofs.RcSteps.word p) (record { at = p }) (d', (tt, tt)) (tt, (tt, tt)))))))))
