use Rattle.std.proofs.Common.{◌∙◌, Bool, ℕ, List, Some, sym, ap}
use Rattle.std.specs.Prelude.{slice_get}
use Rattle.std.specs.List.{list_any}
use Rattle.std.specs.Option.{option_map}
use Rattle.common_lemmas.proofs.Tests.{list_any-map}
use Rattle.plain_tables.specs.References.{is_index}
use Rattle.plain_tables.specs.Tables.{Table}
use Rattle.plain_tables.specs.declared.schema.IndexKind.{IndexKind}
use Rattle.mm_resolver.proofs.Columns.{option_map-map}
use Rattle.mm_catalog.specs.Seen.{database_of, plain_index}
use Rattle.mm_catalog.proofs.schemas.CatalogSchemas.declares.Goals as goal

pub returns : goal.returns
returns c =
    let table = slice_get (database_of c.args.self.now) c.args.table.0 in
    let has : List (ℕ × IndexKind) → Bool = list_any (is_index c.args.column c.args.kind) in
    sym (option_map-map has (λ (t : Table). t.indexes) table)
    ∙ ap (option_map has) c.declared.ensures
    ∙ ap Some (list_any-map (is_index c.args.column c.args.kind) plain_index c.declared.result.now ∙ sym c.has_index.ensures)
