use Rattle.std.proofs.Common.{◌≡◌, ◌∙◌, List, None, Some, ap, arith, append-nil, sym}
use Rattle.std.specs.Prelude.{slice_get}
use Rattle.std.proofs.lemmas.Option.{slice_get-get_or, slice_get_past}
use Rattle.std.proofs.lemmas.Result.{on_ok_weaker}
use Rattle.common_lemmas.proofs.Options.{option_map_some}
use Rattle.plain_tables.specs.Tables.{Table}
use Rattle.plain_tables.specs.declared.schema.Column.{Column}
use Rattle.mm_catalog.specs.Seen.{database_of}
use Rattle.mm_cells.specs.Values.{values_of}
use Rattle.mm_statements.specs.Columns.{source_tables}
use Rattle.mm_statements.proofs.columns.push_place.Goals as goal

pub returns-then-table-table_count : goal.returns-then-table-table_count
returns-then-table-table_count c =
    let source : slice_get (source_tables c.args.query.now) c.args.place.source ≡ Some c.in-Some.table = sym c.source_table.ensures ∙ c.in-Some.is in
    let none : slice_get (database_of c.args.catalog.now) c.in-Some.table.0 ≡ None =
    slice_get_past (database_of c.args.catalog.now) c.in-Some.table.0 (omega (arith, c.table_count.ensures, c.if-table-table_count.true)) in
    rw (source, none) (sym (append-nil (values_of c.args.cells.now)))

pub returns-in_default-get : goal.returns-in_default-get
returns-in_default-get c =
    let source : slice_get (source_tables c.args.query.now) c.args.place.source ≡ Some c.in-Some.table = sym c.source_table.ensures ∙ c.in-Some.is in
    let found = option_map_some (λ (t : Table). t.columns) (slice_get (database_of c.args.catalog.now) c.in-Some.table.0) c.columns.result.now c.columns.ensures in
    let none : slice_get found.0.columns c.args.place.column.0 ≡ None =
    ap (λ (columns : List Column). slice_get columns c.args.place.column.0) found.2 ∙ slice_get_past c.columns.result.now c.args.place.column.0 c.in_default-get.ensures.lookup.3 in
    rw (source, found.1, none) (sym (append-nil (values_of c.args.cells.now)))

pub returns : goal.returns
returns c =
    let source : slice_get (source_tables c.args.query.now) c.args.place.source ≡ Some c.in-Some.table = sym c.source_table.ensures ∙ c.in-Some.is in
    let found = option_map_some (λ (t : Table). t.columns) (slice_get (database_of c.args.catalog.now) c.in-Some.table.0) c.columns.result.now c.columns.ensures in
    let column : Column = c.in-Some-get.column.now in
    let at : slice_get found.0.columns c.args.place.column.0 ≡ Some column =
    ap (λ (columns : List Column). slice_get columns c.args.place.column.0) found.2
    ∙ slice_get-get_or c.columns.result.now c.args.place.column.0 column c.in-Some-get.ensures.lookup.3.0 ∙ ap Some (sym (c.in-Some-get.ensures.lookup.3.1 column)) in
    rw (source, found.1, at) (on_ok_weaker c.push_column.result (λ told. told found.0 found.1) c.push_column.ensures)
