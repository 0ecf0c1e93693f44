use Rattle.std.proofs.Common.{◌<◌, length, map, arith}
use Rattle.std.specs.String.{string_bytes}
use Rattle.mm_catalog.specs.State.{CatalogState}
use Rattle.mm_catalog.specs.Seen.{database_of}
use Rattle.mm_catalog.proofs.Tables.{database-length}
use Rattle.mm_catalog.proofs.catalog.Catalog.table_version.Goals as goal

pub index-requires : goal.index-requires
index-requires c =
    let s : CatalogState = record { limits = c.self.inside.limits; names = map string_bytes c.self.inside.names.keys; relations = c.self.inside.relations.items } in
    let within : c.args.table.0 < length (database_of s) = rw (← c.self.view_is) at c.requires in
    omega (arith, within, database-length s c.self.invariant.named, c.self.inside.relations.ok.0)
