use Rattle.std.proofs.Common.{◌∙◌, ◌++◌, ◌∷◌, IsSome, List, ap, subst, sym}
use Rattle.std.specs.FinMap as finite
use Rattle.std.specs.List.{All}
use Rattle.std.proofs.lemmas.List.Elements.{All-head}
use Rattle.common_lemmas.proofs.Elements.{All-append_parts}
use Rattle.part_raw.specs.declared.tuple_ref.TupleRef.{TupleRef}
use Rattle.ttree.specs.Held.{rest_of}
use Rattle.temp_list.proofs.OnlyRow.{one_passing}
use Rattle.temp_list.proofs.only_row.only_by_scan.Goals as goal

pub returns-then-passes_all : goal.returns-then-passes_all
returns-then-passes_all g c =
    let s = c.args.relation.now in
    let IsHeld : TupleRef → Type 0 = λ r. IsSome (finite.get s.rows r) in
    let seen : List TupleRef = c.loop-r.yielded in
    let rest : List TupleRef = rest_of c.next.new.self in
    let held : All IsHeld (seen ++ c.in-Some.r ∷ rest) =
    subst (All IsHeld) (c.loop-r.invariant.split ∙ ap (λ (refs : List TupleRef). seen ++ refs) c.in-Some.ensures.steps) c.a_relation_is_kept.ensures.keyed.lists.held in
    one_passing (g.R.Relations.tables c.args.tables.now) s c.a_relation_is_kept.ensures c.args.tests.now c.requires.key c.in-Some.r
    (All-head IsHeld c.in-Some.r rest (All-append_parts IsHeld seen (c.in-Some.r ∷ rest) held).1)
    (sym c.passes_all.ensures ∙ c.if-passes_all.true)
