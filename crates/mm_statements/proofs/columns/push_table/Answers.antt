use Rattle.std.proofs.Common.{◌≡◌, None, arith, append-nil, sym}
use Rattle.std.specs.Prelude.{slice_get}
use Rattle.std.proofs.lemmas.Option.{slice_get_past}
use Rattle.mm_catalog.specs.Seen.{database_of}
use Rattle.mm_cells.specs.Values.{values_of}
use Rattle.mm_statements.proofs.columns.push_table.Goals as goal

pub returns-then-table-table_count : goal.returns-then-table-table_count
returns-then-table-table_count c =
    let none : slice_get (database_of c.args.catalog.now) c.args.table.0 ≡ None =
    slice_get_past (database_of c.args.catalog.now) c.args.table.0 (omega (arith, c.table_count.ensures, c.if-table-table_count.true)) in
    rw none (sym (append-nil (values_of c.args.cells.now)))
