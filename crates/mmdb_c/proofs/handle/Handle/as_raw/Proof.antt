-- `as_raw` lends the whole handle. Assumes `Logic`.
use Rattle.std.proofs.Common.{◌≡◌, ℕ, List, [], ◌∷◌, ◌++◌, refl, sym, subst}
use base.Logic.{SProp, ent, id⊢, emp}
use base.Fml.{ftrue, flft}
use mir.Val.{Val, vptr}
use prog.Wp.{WpFn}
use types.Kit.{‵, raw, ◌⊛◌, at_ret, ◌$◌, ◌∵◌, !, qed, by, move, keep, drop, split, join, fsplit, fsplit3, fjoin, suffices, use0}
use types.Run.{stop, of_opd, addr, first, blocks, exec, returns, enter}
use types.ByLocal.{alloc_all, pass_all, free_all, look_at, get, through, sets, sets_last, env}
use contract.Monad.{fact, fact_i}
use contract.Running.{tables}
use denote.Exit.{no}
use denote.RattleType.{RattleType, owns}
use denote.Ref.{MutBor}
use denote.Signature.{types_at, plain, mut_ref_to}
use denote.Steps.{nothing}
use denote.Triple.Walked.{Stays, stay_dropped, walk_of, Goes-spent_ref}
use Rattle.core.proofs.alloc.Shapes.{after}
use Rattle.std.proofs.raw_atomic.Walks.{proved_at, leaves}
use Rattle.raw_handle.proofs.Steps.{H as RawHandle}
use Rattle.raw_handle.proofs.Lent.{lent}
use Rattle.mm_database.specs.contracts.database.OpenDatabase as held
use Rattle.mmdb_c.specs.contracts.handle.Handle as handle
use Rattle.mmdb_c.specs.contracts.handle.Handle.as_raw as f
use Rattle.mmdb_c.proofs.handle.Handle.as_raw.Statement.{statement}
use Rattle.mmdb_c.proofs.handle.Handle.as_raw.Code as code

pub as_raw_spec : {M : Type 1} → statement M
as_raw_spec 𝓤 𝓛 𝓜 𝓡 wired =
    let 𝓣 = tables 𝓤 𝓛.H 𝓜 𝓡 𝓡.env in let c = f.clauses 𝓛 𝓜.mem 𝓡.returns in let fn = code.function in let N : RattleType = handle.the_row in let R : RattleType = RawHandle held.the_row in
    let hs : Stays f.ended.signature.params f.ended.kept = (stay_dropped (mut_ref_to (0 ∷ []) tt (plain (λ _. N))) no, tt) in
    proved_at 𝓛 f.ended hs c 𝓜 𝓡 (Goes-spent_ref 𝓛 1 (0 ∷ []) tt (plain (λ _. N)), tt) f.Key.name fn (code.unfolded 𝓤 𝓛.H 𝓜 𝓡 wired) (λ z are.
    let κs = z.0.0 in let qs = z.0.1 in let Post : Val → SProp 𝓤 = (walk_of 𝓛 f.ended hs c).post z in let Run : List Val → SProp 𝓤 = λ ws. WpFn 𝓤 𝓛.H 𝓣.C 𝓣.Λ fn ws Post in
    let d = z.0.3.0.now in let b : ℕ = z.0.3.0.ref_ptr.0 in let o : ℕ = z.0.3.0.ref_ptr.1 in let v : R.Denot = record { at = d.at; value = d.database } in
    qed 𝓛 (((‵ (flft κs.0 qs.0) ⊛ ‵ ftrue) ⊛ ‵ (owns (types_at f.ended.signature.params κs) z.0.3 z.0.4)) ∷ raw ((c κs z.0.3).requires z.1) ∷ []) ∵
    keep ! (0 ∷ []) $ split ! $ split ! $ move ! (2 ∷ []) $ fsplit ! $ fsplit3 ! $ drop ! $ move ! (0 ∷ 1 ∷ 3 ∷ []) $
    suffices ! (Run (vptr b o ∷ [])) (subst (λ (us : List Val). ent 𝓤 (Run (vptr b o ∷ [])) (Run us)) (sym (λ i. are.0.0 i ++ [])) (id⊢ 𝓤 (Run (vptr b o ∷ [])))) $
    enter ! 𝓣.C 𝓣.Λ fn (vptr b o ∷ []) Post $ alloc_all ! (λ l. pass_all ! refl ((tt, tt), tt) $ let Ev = env fn.locals l in
    lent held.the_row N (λ w. record { at = w.at; database = w.value }) refl (λ w vs. refl) ! tt b o v (λ δ. let x : MutBor R.Denot = record { ref_ptr = (b, o); ghost_name = δ; now = v } in
    -- [the `&mut`; the token; what follows it; nothing]
    first ! $ blocks ! $ sets ! (addr ! (through ! refl (stop !))) refl (tt, tt) $ sets ! (of_opd ! (get ! refl)) refl (tt, tt) $ sets_last ! (addr ! (through ! refl (stop !))) refl (tt, tt) $
    exec ! 𝓣.C 𝓣.Λ Ev (after 1 fn.body) (at_ret Ev Post) $ sets ! (of_opd ! (get ! refl)) refl (tt, tt) $
    use0 𝓛 (raw (fact 𝓤 (v.value ≡ d.database))) (fact_i 𝓤 (v.value ≡ d.database) (emp 𝓤) refl) $
    move ! (3 ∷ 0 ∷ []) $ join ! $ move ! (2 ∷ 3 ∷ []) $ join ! $ nothing ! $ nothing ! $ fjoin ! $
    -- [nothing; the tokens; the `ensures`; the `&mut`]
    returns ! (look_at ! 0 refl) $ free_all ! refl $ keep ! (1 ∷ 0 ∷ 3 ∷ 2 ∷ []) $ by ! (leaves 𝓛 f.ended hs c z (vptr b o) x (tt, tt) (tt, tt)))))
