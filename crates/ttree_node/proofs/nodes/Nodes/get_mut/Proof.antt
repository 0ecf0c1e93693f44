-- `get_mut` lends one node, and the set follows it. Assumes `Logic`.
use Rattle.std.proofs.Common.{◌≡◌, ℕ, List, [], ◌∷◌, ◌++◌, refl, sym, subst}
use seplogic.Ra.Ura.{Ura}
use base.Fraction.{full_share}
use base.Logic.{SProp, ent, sep, never, id⊢, emp}
use base.Fml.{Lft, GName, Fml, ftrue, fsep, fat, flft}
use mir.Raw.{raw as bare}
use mir.Syntax.{a_type, named}
use mir.Val.{Val, vptr}
use mir.MapTy.{inst_fn}
use prog.Wp.{WpFn}
use types.Logic.{Logic, sem}
use types.Kit.{‵, raw, ◌⊛◌, some, later, await, pick, at_ret, ◌$◌, ◌∵◌, !, qed, by, move, keep, drop, split, split3, join, group, fsplit, fsplit3, fjoin, fpack, suffices, use0, use1, use2, rewrite, done}
use types.Run.{stop, fld, of_opd, addr, first, blocks, exec, returns, enter}
use types.ByLocal.{alloc_all, pass_all, free_all, look_at, get, get_in, through, sets, sets_last, env, take_at, give_at}
use types.Part.{sub, whole}
use contract.Monad.{fact, fact_i}
use contract.BorrowLft.{◌⊑◌}
use contract.Running.{tables}
use denote.Exit.{yes, no}
use denote.Follow.{follows, Part, lends_Part}
use denote.Memory.{mem, lone, cell_at, part_at, part_of}
use denote.RattleType.{RattleType, owns}
use denote.RawPtr.{Ptr, block_ptr, in_a_block, lies_at}
use denote.Ref.{MutRef, MutBor}
use denote.Signature.{types_at, plain, mut_ref_to}
use denote.Steps.{nothing, heard, opens}
use denote.Param.{param, layout, layouts}
use denote.Struct.Owning.{shape}
use denote.Struct.Struct.{Struct}
use denote.Triple.Walked.{Stays, stay_dropped, walk_of, Goes-dropped, Goes-spent_ref}
use Rattle.core.proofs.alloc.Shapes.{after}
use Rattle.std.proofs.raw_atomic.Walks.{proved_at, leaves}
use Rattle.std.specs.Prelude.{Some, IsSome}
use Rattle.std_alloc.proofs.RcSteps.{word, word-Good}
use Rattle.ttree_node.specs.Held.{token, node_at, held_owns}
use Rattle.ttree_node.specs.Lends.{with_node}
use Rattle.ttree_node.proofs.Cuts.{Cut, cut_at}
use Rattle.ttree_node.proofs.Memory.{place_read, One, node_cut, node_glue}
use Rattle.ttree_node.specs.contracts.nodes.Nodes as nodes
use Rattle.ttree_node.specs.contracts.nodes.NodePlace as place
use Rattle.ttree_node.specs.contracts.nodes.Nodes.get_mut.{ended, clauses}
use Rattle.ttree_node.specs.contracts.nodes.Nodes.get_mut.Key.{name as #self}
use Rattle.ttree_node.proofs.nodes.Nodes.get_mut.Statement.{statement}
use Rattle.ttree_node.proofs.nodes.Nodes.get_mut.Code as code

module _ (R : RattleType) {M : Type 1} {𝓤 : Ura M} (𝓛 : Logic 𝓤) (b o : ℕ) (d : (nodes.the_row R).Denot) (p : Ptr) (cut : Cut p d.held) (vs : List Val) (pb po : ℕ) where
  abbrev N : RattleType
  N = nodes.the_row R

  -- all but the node
  abbrev Rest : Fml
  Rest = fsep (token (bare (lone R.mir)) p) (fsep (held_owns R (cut.before ++ cut.after)) (fsep ((Struct (shape (nodes.the_type R))).own_val (tt, tt) vs) (cell_at full_share N.mir vs b o)))

  back : p ≡ block_ptr pb po → (w : R.Denot) → ent 𝓤 (sep 𝓤 (sem 𝓛 ((mem R).own_at w pb po)) (sem 𝓛 Rest)) (sem 𝓛 ((mem N).own_at (with_node d p w) b o))
  unfolding part_of
  back e w =
      qed 𝓛 (‵ (part_at R full_share w pb po) ∷ ‵ Rest ∷ []) ∵ rewrite ! 0 (λ (p' : Ptr). ‵ (lies_at R full_share p' w)) (sym e) refl $
      move ! (1 ∷ []) $ fsplit3 ! $ move ! (3 ∷ 0 ∷ []) $ fjoin ! $ use2 𝓛 (‵ (held_owns R (cut.before ++ (p, w) ∷ cut.after))) (node_glue R 𝓛 cut.before (p, w) cut.after) $
      rewrite ! 0 (λ m. ‵ (held_owns R m)) (sym (cut.written w)) refl $ move ! (1 ∷ []) $ fsplit ! $ move ! (0 ∷ 2 ∷ []) $ fjoin ! $ move ! (1 ∷ 0 ∷ []) $ fjoin ! $
      fpack ! (List Val) (λ us. fsep (cell_at full_share N.mir us b o) (N.own_val (with_node d p w) us)) vs $ done !

pub get_mut_spec : {M : Type 1} → statement M
get_mut_spec 𝓤 𝓛 𝓜 𝓡 wired T L =
    let H = 𝓛.H in let 𝓣 = tables 𝓤 H 𝓜 𝓡 𝓡.env in let R : RattleType = param 0 T in let En = ended T in let c = clauses T 𝓛 𝓜.mem 𝓡.returns in
    let inst = layouts (a_type ∷ []) (T, tt) in let fn = inst_fn inst code.function in let N : RattleType = nodes.the_row R in let P : RattleType = place.the_row in
    let hs : Stays En.signature.params En.kept = (stay_dropped (mut_ref_to (0 ∷ []) tt (plain (λ _. N))) no, (stay_dropped (plain (λ _. P)) yes, tt)) in
    proved_at 𝓛 En hs c 𝓜 𝓡 (Goes-spent_ref 𝓛 2 (0 ∷ []) tt (plain (λ _. N)), (Goes-dropped 𝓛 2 (plain (λ _. P)) yes (λ κs x f. refl), tt)) (#self inst) fn (code.unfolded 𝓤 H 𝓜 𝓡 wired (T, tt)) (λ z are.
    let κs = z.0.0 in let qs = z.0.1 in let Post : Val → SProp 𝓤 = (walk_of 𝓛 En hs c).post z in let Run : List Val → SProp 𝓤 = λ ws. WpFn 𝓤 H 𝓣.C 𝓣.Λ fn ws Post in
    let κ : Lft = κs.0 in let q = qs.0 in let d = z.0.3.0.now in let γ : GName = z.0.3.0.ghost_name in let p : Ptr = z.0.3.1.0.at in let b : ℕ = z.0.3.0.ref_ptr.0 in let o : ℕ = z.0.3.0.ref_ptr.1 in
    let toks = ‵ (flft κ q) ⊛ ‵ (flft κs.1.0 qs.1.0) ⊛ ‵ ftrue in let code = N.coded.code d in
    qed 𝓛 ((toks ⊛ ‵ (owns (types_at En.signature.params κs) z.0.3 z.0.4)) ∷ raw (fact 𝓤 (κs.1.0 ⊑ T.lives)) ∷ raw (fact 𝓤 (IsSome (node_at p d.held))) ∷ []) ∵
    move ! (2 ∷ []) $ heard ! (IsSome (node_at p d.held)) (λ asked. let cut = cut_at p d.held asked in let v = cut.node in
    keep ! (0 ∷ []) $ split ! $ split3 ! $ move ! (3 ∷ []) $ fsplit ! $ fsplit3 ! $ drop ! $ move ! (2 ∷ []) $ fsplit ! $ place_read ! p z.0.4.1.0 (λ e1. drop ! $
    let args : z.0.4.0 ++ (z.0.4.1.0 ++ []) ≡ vptr b o ∷ word p ∷ [] = λ i. are.0.0 i ++ (e1 i ++ []) in
    suffices ! (Run (vptr b o ∷ word p ∷ [])) (subst (λ (us : List Val). ent 𝓤 (Run (vptr b o ∷ word p ∷ [])) (Run us)) (sym args) (id⊢ 𝓤 (Run (vptr b o ∷ word p ∷ [])))) $
    enter ! 𝓣.C 𝓣.Λ fn (vptr b o ∷ word p ∷ []) Post $ alloc_all ! (λ l. pass_all ! refl ((tt, tt), (word-Good [] p, tt)) $ let Ev = env fn.locals l in
    opens ! tt N {h = d} b o (λ vs. move ! (1 ∷ []) $ fsplit ! $ move ! (1 ∷ []) $ rewrite ! 0 (λ m. ‵ (held_owns R m)) cut.whole refl $
    use1 𝓛 (‵ (One R 𝓛 (p, v)) ⊛ ‵ (held_owns R (cut.before ++ cut.after))) (node_cut R 𝓛 cut.before (p, v) cut.after) $ split ! $ fsplit ! $
    in_a_block ! p (λ p'. lies_at R full_share p' v) (id⊢ 𝓤 (never 𝓤)) (λ pb po e.
    -- [the node; its token; the other nodes; the mark; its cell; the open borrow; obs; auth; two tokens' rest]
    let way = back R 𝓛 b o d p cut vs pb po e in
    take_at ! 2 $ rewrite ! 0 (λ (p' : Ptr). ‵ (fat full_share (layout P) (l 2) 0 (word p'))) e refl $ give_at ! 2 $
    sets ! (of_opd ! (get ! refl)) refl (tt, tt) $ first ! $ blocks ! $ sets ! (of_opd ! (get_in ! (fld ! refl (stop !)) (sub ! 0 refl (whole !)))) refl (tt, tt) $ sets_last ! (addr ! (through ! refl (stop !))) refl (tt, tt) $
    exec ! 𝓣.C 𝓣.Λ Ev (after 2 fn.body) (at_ret Ev Post) $ sets ! (of_opd ! (get ! refl)) refl (tt, tt) $
    move ! (3 ∷ 4 ∷ []) $ fjoin ! $ move ! (3 ∷ 0 ∷ []) $ fjoin ! $ move ! (2 ∷ 0 ∷ []) $ fjoin ! $ move ! (2 ∷ 3 ∷ 4 ∷ 1 ∷ 0 ∷ []) $ group ! 5 $
    use1 𝓛 (later (some (λ (δ : GName). raw (Part 𝓛 N R (with_node d p) (named 0) κ q b o pb po γ (sem 𝓛 (Rest R 𝓛 b o d p cut vs pb po)) way v δ))))
    (lends_Part 𝓛 N R (with_node d p) (named 0) κ q b o pb po γ (sem 𝓛 (Rest R 𝓛 b o d p cut vs pb po)) way code code v) $ await ! tt $ pick ! (λ δ.
    let x : MutBor T.Denot = record { ref_ptr = (pb, po); ghost_name = δ; now = v } in
    use1 𝓛 (‵ ((MutRef (named 0) κ R).own_val x (vptr pb po ∷ [])) ⊛ ‵ (flft κ q) ⊛ ‵ (follows N R γ δ (with_node d p))) (id⊢ 𝓤 _) $
    split3 ! $ use0 𝓛 (raw (fact 𝓤 (node_at p d.held ≡ Some v))) (fact_i 𝓤 (node_at p d.held ≡ Some v) (emp 𝓤) cut.found) $
    move ! (3 ∷ 0 ∷ []) $ join ! $ move ! (3 ∷ 4 ∷ []) $ join ! $ move ! (3 ∷ 0 ∷ []) $ join ! $
    nothing ! $ nothing ! $ fjoin ! $ nothing ! $ fjoin ! $
    returns ! (look_at ! 0 refl) $ free_all ! refl $ keep ! (1 ∷ 0 ∷ 3 ∷ 2 ∷ []) $ by ! (leaves 𝓛 En hs c z (vptr pb po) x (tt, (tt, tt)) (tt, (tt, tt))))))))))
