use Rattle.std.proofs.Common.{◌≡◌, length, map, arith}
use Rattle.std.specs.String.{string_bytes}
use Rattle.mm_catalog.specs.State.{CatalogState}
use Rattle.mm_catalog.specs.Seen.{database_of}
use Rattle.mm_catalog.proofs.Tables.{database-length}
use Rattle.mm_catalog.proofs.catalog.Catalog.table_count.Goals as goal

pub returns : goal.returns
returns c =
    let s : CatalogState = record { limits = c.self.inside.limits; names = map string_bytes c.self.inside.names.keys; relations = c.self.inside.relations.items } in
    let tables : length (database_of s) ≡ length c.self.inside.relations.items = database-length s c.self.invariant.named in
    rw (← c.self.view_is) (omega (arith, c.len.ensures, c.self.inside.relations.ok.0, tables))
