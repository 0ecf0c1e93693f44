-- `get` shows the value of one node. Assumes `Logic`.
use Rattle.std.proofs.Common.{◌≡◌, ℕ, List, [], ◌∷◌, ◌++◌, refl, sym, ap, ◌∙◌, subst}
use mir.Syntax.{a_type, named}
use mir.Val.{Val, vptr}
use mir.MapTy.{inst_fn}
use base.Logic.{SProp, ent, id⊢, emp}
use base.Fml.{Lft, ftrue, flft}
use prog.Wp.{WpFn}
use types.Kit.{‵, raw, ◌⊛◌, at_ret, ◌$◌, ◌∵◌, !, qed, by, move, keep, drop, split, fsplit, fjoin, suffices, use0, use1, rewrite, feq_i, done}
use types.Run.{stop, fld, of_opd, addr, first, blocks, exec, returns, enter}
use types.ByLocal.{alloc_all, pass_all, free_all, look_at, get, get_in, through, sets, sets_last, env}
use types.Part.{sub, whole}
use contract.Monad.{fact, fact_i}
use contract.BorrowLft.{◌⊑◌}
use contract.Running.{tables}
use denote.Builtin.{RefOf}
use denote.Exit.{yes}
use denote.Opens.{hide, unhide}
use denote.RattleType.{RattleType, owns}
use denote.RawPtr.{Ptr, block_ptr, null_ptr, in_a_block}
use denote.Ref.{ShrRef}
use denote.Signature.{types_at, plain}
use denote.Steps.{nothing, heard}
use denote.Param.{param, layouts}
use denote.Struct.Lending.{lent_at}
use denote.Triple.Walked.{Stays, stay_dropped, walk_of, Goes-dropped}
use Rattle.core.proofs.alloc.Shapes.{after}
use Rattle.std.proofs.raw_atomic.Walks.{proved_at, leaves}
use Rattle.std_alloc.proofs.RcSteps.{word, word-Good}
use Rattle.std.specs.Prelude.{Some, IsSome}
use Rattle.ttree_node.specs.Held.{node_at, held_lent}
use Rattle.ttree_node.proofs.Cuts.{cut_at}
use Rattle.ttree_node.proofs.Memory.{place_read, node_seen}
use Rattle.ttree_node.specs.contracts.nodes.Nodes as nodes
use Rattle.ttree_node.specs.contracts.nodes.NodePlace as place
use Rattle.ttree_node.specs.contracts.nodes.Nodes.get.{ended, clauses}
use Rattle.ttree_node.specs.contracts.nodes.Nodes.get.Key.{name as #self}
use Rattle.ttree_node.proofs.nodes.Nodes.get.Statement.{statement}
use Rattle.ttree_node.proofs.nodes.Nodes.get.Code as code

pub get_spec : {M : Type 1} → statement M
get_spec 𝓤 𝓛 𝓜 𝓡 wired T L =
    let H = 𝓛.H in let 𝓣 = tables 𝓤 H 𝓜 𝓡 𝓡.env in let R : RattleType = param 0 T in let En = ended T in let c = clauses T 𝓛 𝓜.mem 𝓡.returns in
    let inst = layouts (a_type ∷ []) (T, tt) in let fn = inst_fn inst code.function in let N : RattleType = nodes.the_row R in let P : RattleType = place.the_row in
    let hs : Stays En.signature.params En.kept = (stay_dropped (RefOf (0 ∷ []) tt (plain (λ _. N)) (λ _. tt)) yes, (stay_dropped (plain (λ _. P)) yes, tt)) in
    proved_at 𝓛 En hs c 𝓜 𝓡 (Goes-dropped 𝓛 2 (RefOf (0 ∷ []) tt (plain (λ _. N)) (λ _. tt)) yes (λ κs x f. refl), (Goes-dropped 𝓛 2 (plain (λ _. P)) yes (λ κs x f. refl), tt)) (#self inst) fn (code.unfolded 𝓤 H 𝓜 𝓡 wired (T, tt)) (λ z are.
    let κs = z.0.0 in let qs = z.0.1 in let Post : Val → SProp 𝓤 = (walk_of 𝓛 En hs c).post z in let Run : List Val → SProp 𝓤 = λ ws. WpFn 𝓤 H 𝓣.C 𝓣.Λ fn ws Post in
    let κ : Lft = κs.0 in let m = z.0.3.0.now.held in let p : Ptr = z.0.3.1.0.at in let b : ℕ = z.0.3.0.ref_ptr.0 in let o : ℕ = z.0.3.0.ref_ptr.1 in
    let toks = ‵ (flft κ qs.0) ⊛ ‵ (flft κs.1.0 qs.1.0) ⊛ ‵ ftrue in
    qed 𝓛 ((toks ⊛ ‵ (owns (types_at En.signature.params κs) z.0.3 z.0.4)) ∷ raw (fact 𝓤 (κs.1.0 ⊑ T.lives)) ∷ raw (fact 𝓤 (IsSome (node_at p m))) ∷ []) ∵
    move ! (2 ∷ []) $ heard ! (IsSome (node_at p m)) (λ asked. let cut = cut_at p m asked in let v = cut.node in
    keep ! (0 ∷ []) $ split ! $ move ! (1 ∷ []) $ fsplit ! $ fsplit ! $ drop ! $ move ! (1 ∷ []) $ fsplit ! $ place_read ! p z.0.4.1.0 (λ e1. drop ! $
    unhide ! $ fsplit ! $ drop ! $ rewrite ! 0 (λ n. ‵ (held_lent R n κ)) cut.whole refl $ use1 𝓛 (‵ (lent_at R p v κ)) (node_seen R 𝓛 κ cut.before (p, v) cut.after) $
    in_a_block ! p (λ p'. lent_at R p' v κ) (qed 𝓛 (‵ (lent_at R null_ptr v κ) ∷ []) ∵ fsplit ! $ keep ! (0 ∷ []) $ done !) (λ pb po e.
    let args : z.0.4.0 ++ (z.0.4.1.0 ++ []) ≡ vptr b o ∷ word (block_ptr pb po) ∷ [] = λ i. are.0.0 i ++ ((e1 ∙ ap (λ p'. word p' ∷ []) e) i ++ []) in
    suffices ! (Run (vptr b o ∷ word (block_ptr pb po) ∷ [])) (subst (λ (us : List Val). ent 𝓤 (Run (vptr b o ∷ word (block_ptr pb po) ∷ [])) (Run us)) (sym args) (id⊢ 𝓤 (Run (vptr b o ∷ word (block_ptr pb po) ∷ [])))) $
    enter ! 𝓣.C 𝓣.Λ fn (vptr b o ∷ word (block_ptr pb po) ∷ []) Post $ alloc_all ! (λ l. pass_all ! refl ((tt, tt), (word-Good [] (block_ptr pb po), tt)) $ let Ev = env fn.locals l in
    let x : (ShrRef (named 0) κ R).Denot = record { ref_ptr = (pb, po); now = v } in
    sets ! (of_opd ! (get ! refl)) refl (tt, tt) $ first ! $ blocks ! $ sets ! (of_opd ! (get_in ! (fld ! refl (stop !)) (sub ! 0 refl (whole !)))) refl (tt, tt) $ sets_last ! (addr ! (through ! refl (stop !))) refl (tt, tt) $
    exec ! 𝓣.C 𝓣.Λ Ev (after 2 fn.body) (at_ret Ev Post) $ sets ! (of_opd ! (get ! refl)) refl (tt, tt) $
    fsplit ! $ drop ! $ hide ! $ feq_i ! (List Val) (vptr pb po ∷ []) (vptr pb po ∷ []) refl $ fjoin ! $
    use0 𝓛 (raw (fact 𝓤 (node_at p m ≡ Some v))) (fact_i 𝓤 (node_at p m ≡ Some v) (emp 𝓤) cut.found) $
    nothing ! $ nothing ! $ fjoin ! $ nothing ! $ fjoin ! $
    returns ! (look_at ! 0 refl) $ free_all ! refl $ keep ! (3 ∷ 0 ∷ 2 ∷ 1 ∷ []) $ by ! (leaves 𝓛 En hs c z (vptr pb po) x (tt, (tt, tt)) (tt, (tt, tt))))))))
