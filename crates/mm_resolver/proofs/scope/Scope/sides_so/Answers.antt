use Rattle.std.proofs.Common.{◌≡◌, ◌∙◌, sym, ap, Some, List}
use Rattle.std.specs.Option.{option_map, option_zip}
use Rattle.plain_tables.specs.Queries.{column_meant, side_name}
use Rattle.mm_resolver.specs.Naming.{columns_of, columns_of_all, written, placed, as_found}
use Rattle.mm_resolver.specs.declared.named_table.NamedTable.{NamedTable}
use Rattle.mm_resolver.proofs.Scopes.{zip_placed}
use Rattle.mm_resolver.proofs.scope.Scope.sides_so.Goals as goal

pub returns : goal.returns
returns c =
    let before = columns_of_all c.args.self.now.tables.items in
    let own = columns_of c.args.own.now in
    let outer = c.in_ok-column.field-0 in
    let inner = c.in_ok-column-2.field-0 in
    let left : option_map placed (column_meant before (side_name c.args.outer.now)) ≡ Some (as_found outer) =
    ap (λ name. option_map placed (column_meant before name)) (sym c.of_side.ensures)
    ∙ ap (λ (ss : List NamedTable). option_map placed (column_meant (columns_of_all ss) (written c.of_side.result))) (sym c.deref.ensures.value)
    ∙ sym c.in_ok-column.ensures.meant in
    let right : option_map placed (column_meant own (side_name c.args.inner.now)) ≡ Some (as_found inner) =
    ap (λ name. option_map placed (column_meant own name)) (sym c.of_side-2.ensures)
    ∙ ap (λ (ss : List NamedTable). option_map placed (column_meant (columns_of_all ss) (written c.of_side-2.result))) (sym c.from_ref.ensures.value)
    ∙ sym c.in_ok-column-2.ensures.meant in
    sym (zip_placed (column_meant before (side_name c.args.outer.now)) (column_meant own (side_name c.args.inner.now))
    ∙ ap (λ o. option_zip o (option_map placed (column_meant own (side_name c.args.inner.now)))) left
    ∙ ap (λ o. option_zip (Some (as_found outer)) o) right)
