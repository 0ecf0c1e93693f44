use Rattle.std.specs.List.{list_any, slice_get}
use Rattle.plain_tables.specs.References.{is_index}
use Rattle.plain_tables.specs.Tables.{Table}
use Rattle.mm_catalog.specs.Seen.{database_of}
use Rattle.mm_catalog.proofs.IndexBack.{told_index}
use Rattle.mm_catalog.proofs.catalog.Catalog.has_index.Goals as goal

pub returns : goal.returns
returns c = told_index (λ (t : Table). list_any (is_index c.args.column c.args.kind) t.indexes) (slice_get (database_of c.args.self.now) c.args.table.0) c.declares.result c.declares.ensures
