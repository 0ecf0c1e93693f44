use Rattle.std.proofs.Common.{◌<◌, arith, length}
use Rattle.std.proofs.lemmas.List.Elements.{All-nil}
use Rattle.plain_tables.specs.declared.resolved.Test.{Test}
use Rattle.mm_catalog.proofs.Tables.{database-length}
use Rattle.session_tests.proofs.Links.{sound}
use Rattle.session_tests.proofs.selects.all_rows.Goals as goal

pub select-requires-clause-sound : goal.select-requires-clause-sound
select-requires-clause-sound g c = sound c.args.catalog.now c.a_catalog_is_consistent.ensures

pub select-requires-clause-there : goal.select-requires-clause-there
select-requires-clause-there g c =
    let tables = database-length c.args.catalog.now c.a_catalog_is_consistent.ensures.named in
    omega (arith, tables, c.table_count.ensures)

pub select-requires-clause-columns : goal.select-requires-clause-columns
select-requires-clause-columns g c = λ s lent. All-nil (λ (t : Test). t.column.0 < length s.schema.columns)
