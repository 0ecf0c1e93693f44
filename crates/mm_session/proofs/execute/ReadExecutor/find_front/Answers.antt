use Rattle.std.proofs.Common.{◌≡◌, List, Some, subst, sym, take}
use Rattle.std.specs.Prelude.{slice_get}
use Rattle.std.proofs.lemmas.Result.{on_ok_weaker}
use Rattle.plain_tables.specs.declared.resolved.Test.{Test}
use Rattle.mm_relation.specs.State.{RelationState}
use Rattle.mm_catalog.proofs.Among.{there_at}
use Rattle.temp_list.specs.Reading.{HasColumns, OfRelation, passing}
use Rattle.mm_session.proofs.Queries.{key_source, source_column, source_columns}
use Rattle.mm_session.proofs.execute.ReadExecutor.find_front.Goals as goal

pub find_first_rows-requires-clause-there : goal.find_first_rows-requires-clause-there
find_first_rows-requires-clause-there c = there_at c.args.catalog.now c.a_catalog_is_consistent.ensures c.args.query.now.source.table.0 c.requires.meant.0.0 c.requires.meant.0.1

pub find_first_rows-requires-clause-columns : goal.find_first_rows-requires-clause-columns
find_first_rows-requires-clause-columns c =
    subst (λ (ts : List Test). (s : RelationState) → slice_get c.args.catalog.now.relations c.args.query.now.source.table.0 ≡ Some s → HasColumns s ts) (sym c.as_slice-tests.ensures)
    (source_columns c.args.catalog.now c.a_catalog_is_consistent.ensures c.args.query.now.source _ (key_source c.args.catalog.now c.a_catalog_is_consistent.ensures c.args.query.now.source c.requires.meant.0.0 c.requires.meant.0.1 c.requires.meant.0.2.0))

pub find_first_rows-requires-clause-key : goal.find_first_rows-requires-clause-key
find_first_rows-requires-clause-key c =
    source_column c.args.catalog.now c.a_catalog_is_consistent.ensures c.args.query.now.source (record { 0 = 0 })
    (key_source c.args.catalog.now c.a_catalog_is_consistent.ensures c.args.query.now.source c.requires.meant.0.0 c.requires.meant.0.1 c.requires.meant.0.2.0)

pub returns : goal.returns
returns c =
    on_ok_weaker c.find_first_rows.result
    (λ found. record {
      ordered = c.requires.ordered;
      pass = subst (λ (ts : List Test). OfRelation c.args.catalog.now.relations c.args.query.now.source.table.0 (λ s. c.find_first_rows.new.found.items ≡ take c.args.most (passing c.args.catalog.now.relations s ts))) c.as_slice-tests.ensures found;
    })
    c.find_first_rows.ensures
