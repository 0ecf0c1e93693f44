use Rattle.std.proofs.Common.{◌∙◌, length, sym, ap, arith}
use Rattle.std.proofs.lemmas.List.{length-map}
use Rattle.mm_relation.specs.State.{tree_list}
use Rattle.mm_catalog.proofs.Tables.{database-length}
use Rattle.mm_catalog.specs.Picked.{seen_values}
use Rattle.mm_session.proofs.Members.{rows_same}
use Rattle.mm_session.proofs.execute.saving.rows_of.Goals as goal

pub at-relation-requires : goal.at-relation-requires
at-relation-requires c = omega (arith, c.requires, database-length c.args.catalog.now c.a_catalog_is_consistent.ensures.named)

pub returns-clause-counted : goal.returns-clause-counted
returns-clause-counted c = λ t at.
    let catalog = c.args.catalog.now in
    let s = c.at-relation.result.now in
    c.len.ensures.value ∙ sym c.a_relation_is_kept.ensures.keyed.lists.count ∙ sym (length-map (tree_list s.by_key) (seen_values catalog s))
    ∙ ap length (sym (rows_same catalog c.a_catalog_is_consistent.ensures c.args.table.0 t at s c.at-relation.ensures))
