use Rattle.std.proofs.Common.{rules, ◌≡◌, map, position, sym, ap, ◌∙◌}
use Rattle.std.specs.Str.{bytes_eq}
use Rattle.std.specs.String.{string_bytes}
use Rattle.plain_tables.specs.Databases.{is_named}
use Rattle.mm_catalog.specs.State.{CatalogState}
use Rattle.mm_catalog.specs.Seen.{database_of}
use Rattle.mm_catalog.proofs.Aimed.{key_found}
use Rattle.mm_catalog.proofs.NamedTables.{named_position}
use Rattle.mm_catalog.proofs.catalog.Catalog.table_number.Goals as goal
use Rattle.mm_catalog.proofs.catalog.Catalog.table_number.Goals.{After-get_index_of}

found : (c : After-get_index_of) → position (is_named c.args.name.now) (database_of (record { limits = c.self.inside.limits; names = map string_bytes c.self.inside.names.keys; relations = c.self.inside.relations.items })) ≡ c.get_index_of.result
found c =
    let s : CatalogState = record { limits = c.self.inside.limits; names = map string_bytes c.self.inside.names.keys; relations = c.self.inside.relations.items } in
    named_position s c.args.name.now c.self.invariant.named
    ∙ ap (λ name. position (λ n. bytes_eq n name) s.names) (sym c.as_str.ensures)
    ∙ sym (c.get_index_of.ensures.index ∙ key_found c.self.inside.names.keys c.as_str.result.now)

pub returns-in_err-number : goal.returns-in_err-number
returns-in_err-number c = rw (← c.self.view_is, found (goal.at.returns-in_err-number c).After-get_index_of) (search rules)

pub returns : goal.returns
returns c = rw (← c.self.view_is, found (goal.at.returns c).After-get_index_of) (search rules)
