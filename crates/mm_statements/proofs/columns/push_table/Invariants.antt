use Rattle.std.proofs.Common.{◌≡◌, ◌++◌, take}
use Rattle.std.specs.List.{flat_map}
use Rattle.std.specs.Prelude.{Some, slice_get}
use Rattle.plain_tables.specs.Tables.{Table}
use Rattle.mm_catalog.specs.Seen.{database_of}
use Rattle.mm_cells.specs.Values.{values_of}
use Rattle.mm_statements.specs.Columns.{column_of}
use Rattle.mm_statements.proofs.columns.push_table.Given as goal

abbrev pub invariant-loop-column : goal.invariant-loop-column
invariant-loop-column l =
    (t : Table) → slice_get (database_of l.catalog) l.table.0 ≡ Some t → values_of l.cells ≡ values_of l.fn.cells ++ flat_map (column_of (database_of l.catalog) t) (take l.column-index l.column-items)
