use Rattle.std.proofs.Common.{◌∙◌, ap, map, sym}
use Rattle.std.specs.List.{list_any}
use Rattle.std.specs.String.{string_bytes}
use Rattle.plain_tables.specs.References.{refers_to}
use Rattle.mm_relation.specs.State.{RelationState}
use Rattle.mm_catalog.specs.State.{CatalogState}
use Rattle.mm_catalog.proofs.NamedTables.{database-any}
use Rattle.mm_catalog.proofs.catalog.Catalog.is_table_referenced.Goals as goal

pub returns : goal.returns
returns c =
    let s : CatalogState = record { limits = c.self.inside.limits; names = map string_bytes c.self.inside.names.keys; relations = c.self.inside.relations.items } in
    rw (← c.self.view_is)
    (c.any_refers_to.ensures
    ∙ ap (list_any (λ (r : RelationState). list_any (refers_to c.args.name.now) r.schema.columns)) c.as_slice.ensures.value
    ∙ sym (database-any s c.self.invariant.named (list_any (refers_to c.args.name.now))))
