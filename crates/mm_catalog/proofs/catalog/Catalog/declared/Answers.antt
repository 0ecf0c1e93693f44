use Rattle.std.proofs.Common.{◌≡◌, ◌<◌, Some, length, map, arith, refl, sym, ap, ◌∙◌}
use Rattle.std.specs.List.{slice_get}
use Rattle.std.specs.String.{string_bytes}
use Rattle.std.proofs.lemmas.Option.{slice_get_read}
use Rattle.mm_catalog.specs.State.{CatalogState}
use Rattle.mm_catalog.specs.Seen.{database_of, plain_index}
use Rattle.mm_catalog.proofs.Tables.{database-length}
use Rattle.mm_catalog.proofs.NamedTables.{database-indexes}
use Rattle.mm_catalog.proofs.catalog.Catalog.declared.Goals as goal

pub index-requires : goal.index-requires
index-requires c =
    let s : CatalogState = record { limits = c.self.inside.limits; names = map string_bytes c.self.inside.names.keys; relations = c.self.inside.relations.items } in
    let within : c.args.table.0 < length (database_of s) = rw (← c.self.view_is) at c.requires in
    omega (arith, within, database-length s c.self.invariant.named, c.self.inside.relations.ok.0)

pub returns : goal.returns
returns c =
    let s : CatalogState = record { limits = c.self.inside.limits; names = map string_bytes c.self.inside.names.keys; relations = c.self.inside.relations.items } in
    let within : c.args.table.0 < length (database_of s) = rw (← c.self.view_is) at c.requires in
    let there : c.args.table.0 < length s.relations = omega (arith, within, database-length s c.self.invariant.named) in
    let read : slice_get s.relations c.args.table.0 ≡ Some c.index.result.now = slice_get_read s.relations (length s.relations) c.args.table.0 c.index.result.now refl there c.index.ensures in
    rw (← c.self.view_is)
    (database-indexes s c.self.invariant.named c.args.table.0 c.index.result.now read
    ∙ ap (λ indexes. Some (map plain_index indexes)) (sym c.declared.ensures))
