use Rattle.std.proofs.Common.{◌≡◌, ◌<◌, ◌∙◌, sym, ap, Some, List, length, arith}
use Rattle.std.specs.Option.{option_map}
use Rattle.plain_tables.specs.Queries.{column_meant}
use Rattle.mm_resolver.specs.declared.named_table.NamedTable.{NamedTable}
use Rattle.mm_resolver.specs.Naming.{columns_of, columns_of_all, written, place_in, placed}
use Rattle.mm_resolver.proofs.Columns.{place_found}
use Rattle.mm_resolver.proofs.named_table.NamedTable.place.Goals as goal

pub returns : goal.returns
returns c =
    let named = c.in_ok-named.named in
    let name = written c.args.name in
    let below : named.place.source < length c.from_ref.result.now = c.in_ok-named.ensures.within in
    let first : named.place.source ≡ 0 = omega (arith, below, c.from_ref.ensures.len) in
    ap (λ source. Some (place_in source named.place.column)) (sym first)
    ∙ place_found (columns_of c.args.self.now) name (Some named)
    (c.in_ok-named.ensures.meant ∙ ap (λ (ss : List NamedTable). option_map placed (column_meant (columns_of_all ss) name)) c.from_ref.ensures.value)
