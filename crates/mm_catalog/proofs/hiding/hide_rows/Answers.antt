use Rattle.std.proofs.Common.{get_or, sym, ◌∙◌, subst}
use Rattle.std.specs.List.{All}
use Rattle.std.proofs.lemmas.Option.{same_Some, slice_get-get_or}
use Rattle.mm_relation.specs.State.{RelationState}
use Rattle.mm_catalog.specs.Deleted.{IsFree}
use Rattle.mm_catalog.proofs.hiding.hide_rows.Goals as goal

pub hide_free-requires-clause-free : goal.hide_free-requires-clause-free
hide_free-requires-clause-free c s at =
    let d = c.index-relations-table.result in
    let same = same_Some (get_or c.args.relations.now c.args.table.0 d) s (sym (slice_get-get_or c.args.relations.now c.args.table.0 d c.requires.there) ∙ at) in
    subst (λ (t : RelationState). All (IsFree t) c.args.rows.now) same c.if-any_referenced.ensures.free

pub returns-clause-free : goal.returns-clause-free
returns-clause-free c s at =
    let d = c.index-relations-table.result in
    let same = same_Some (get_or c.args.relations.now c.args.table.0 d) s (sym (slice_get-get_or c.args.relations.now c.args.table.0 d c.requires.there) ∙ at) in
    subst (λ (t : RelationState). All (IsFree t) c.args.rows.now) same c.if-any_referenced.ensures.free
