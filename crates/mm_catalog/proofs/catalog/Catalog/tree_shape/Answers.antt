use Rattle.std.proofs.Common.{◌≡◌, ◌<◌, Some, length, map, arith, refl, sym, ◌∙◌}
use Rattle.std.specs.List.{slice_get}
use Rattle.std.specs.String.{string_bytes}
use Rattle.std.proofs.lemmas.Option.{slice_get_read}
use Rattle.mm_relation.specs.State.{linked_keys}
use Rattle.mm_catalog.specs.State.{CatalogState}
use Rattle.mm_catalog.specs.Seen.{database_of}
use Rattle.mm_catalog.proofs.Tables.{database-length}
use Rattle.mm_catalog.proofs.Among.{among_at}
use Rattle.mm_catalog.proofs.TreeShapes.{tells_tree}
use Rattle.mm_catalog.proofs.catalog.Catalog.tree_shape.Goals as goal

pub index-relation-requires : goal.index-relation-requires
index-relation-requires c =
    let s : CatalogState = record { limits = c.self.inside.limits; names = map string_bytes c.self.inside.names.keys; relations = c.self.inside.relations.items } in
    let within : c.args.table.0 < length (database_of s) = rw (← c.self.view_is) at c.requires in
    omega (arith, within, database-length s c.self.invariant.named, c.self.inside.relations.ok.0)

pub returns-clause-told : goal.returns-clause-told
returns-clause-told c =
    let s : CatalogState = record { limits = c.self.inside.limits; names = map string_bytes c.self.inside.names.keys; relations = c.self.inside.relations.items } in
    let within : c.args.table.0 < length (database_of s) = rw (← c.self.view_is) at c.requires in
    let there : c.args.table.0 < length s.relations = omega (arith, within, database-length s c.self.invariant.named) in
    let read : slice_get s.relations c.args.table.0 ≡ Some c.index-relation.result.now =
    slice_get_read s.relations (length s.relations) c.args.table.0 c.index-relation.result.now refl there c.index-relation.ensures in
    let on = sym c.has_tree.ensures ∙ c.if-not-has_tree.false in
    let among = among_at s c.self.invariant c.args.table.0 c.index-relation.result.now read in
    rw (← c.self.view_is)
    (tells_tree s c.self.invariant c.args.table.0 c.args.column.0 c.index-relation.result.now c.tree_shape.result read on
    c.tree_shape.ensures.told c.tree_shape.ensures.kept (c.tree_shape.ensures.declared (linked_keys c.index-relation.result.now.targets s.relations) among.current))
