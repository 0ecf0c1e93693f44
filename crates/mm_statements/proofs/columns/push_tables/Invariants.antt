use Rattle.std.proofs.Common.{◌≡◌, ◌++◌, map, take}
use Rattle.std.specs.List.{flat_map}
use Rattle.mm_catalog.specs.Seen.{database_of}
use Rattle.mm_cells.specs.Values.{values_of}
use Rattle.mm_statements.specs.Columns.{columns_of_table}
use Rattle.mm_statements.proofs.columns.push_tables.Given as goal

abbrev pub invariant-loop-join : goal.invariant-loop-join
invariant-loop-join l =
    values_of l.cells ≡ values_of l.fn.cells ++ (columns_of_table (database_of l.catalog) l.query.source.table ++ flat_map (columns_of_table (database_of l.catalog)) (map (λ join. join.source.table) (take l.join-index l.join-items)))
