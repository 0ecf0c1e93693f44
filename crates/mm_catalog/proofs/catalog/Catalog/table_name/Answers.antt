use Rattle.std.proofs.Common.{◌≡◌, ◌<◌, Some, length, map, arith, refl, sym, ap, ◌∙◌}
use Rattle.std.specs.List.{slice_get}
use Rattle.std.specs.Option.{option_map}
use Rattle.std.specs.String.{string_bytes}
use Rattle.std.proofs.lemmas.List.{length-map}
use Rattle.std.proofs.lemmas.Option.{slice_get-map, slice_get_read}
use Rattle.mm_catalog.specs.State.{CatalogState}
use Rattle.mm_catalog.specs.Seen.{database_of}
use Rattle.mm_catalog.proofs.Tables.{database-length, database-name}
use Rattle.mm_catalog.proofs.catalog.Catalog.table_name.Goals as goal
use Rattle.mm_catalog.proofs.catalog.Catalog.table_name.Goals.{After-as_slice}

within : (c : After-as_slice) → c.args.table.0 < length c.as_slice.result.now
within c =
    let s : CatalogState = record { limits = c.self.inside.limits; names = map string_bytes c.self.inside.names.keys; relations = c.self.inside.relations.items } in
    let there : c.args.table.0 < length (database_of s) = rw (← c.self.view_is) at c.requires in
    omega (arith, there, database-length s c.self.invariant.named, c.self.invariant.named, length-map c.self.inside.names.keys string_bytes, ap length c.as_slice.ensures.keys)

pub bounds-as_slice-table : goal.bounds-as_slice-table
bounds-as_slice-table c = within (goal.at.bounds-as_slice-table c).After-as_slice

pub returns : goal.returns
returns c =
    let s : CatalogState = record { limits = c.self.inside.limits; names = map string_bytes c.self.inside.names.keys; relations = c.self.inside.relations.items } in
    let there : c.args.table.0 < length (database_of s) = rw (← c.self.view_is) at c.requires in
    let inside : c.args.table.0 < length s.relations = omega (arith, there, database-length s c.self.invariant.named) in
    let read : slice_get c.as_slice.result.now c.args.table.0 ≡ Some c.index-as_slice-table.result =
    slice_get_read c.as_slice.result.now (length c.as_slice.result.now) c.args.table.0 c.index-as_slice-table.result refl (within (goal.at.returns c).After-as_slice) c.index-as_slice-table.is in
    let at : slice_get s.names c.args.table.0 ≡ Some c.as_str.result.now =
    slice_get-map string_bytes c.self.inside.names.keys c.args.table.0
    ∙ ap (λ ks. option_map string_bytes (slice_get ks c.args.table.0)) (sym c.as_slice.ensures.keys)
    ∙ ap (option_map string_bytes) read ∙ ap (λ t. Some t) (sym c.as_str.ensures.value) in
    rw (← c.self.view_is) (database-name s c.self.invariant.named c.args.table.0 c.as_str.result.now at inside)
