use Rattle.std.proofs.Common.{◌≡◌, ◌++◌, take}
use Rattle.std.specs.List.{flat_map}
use Rattle.mm_catalog.specs.Seen.{database_of}
use Rattle.mm_cells.specs.Values.{values_of}
use Rattle.mm_statements.specs.Columns.{column_placed, source_tables}
use Rattle.mm_statements.proofs.columns.push_places.Given as goal

abbrev pub invariant-loop-place : goal.invariant-loop-place
invariant-loop-place l =
    values_of l.cells ≡ values_of l.fn.cells ++ flat_map (column_placed (database_of l.catalog) (source_tables l.query)) (take l.place-index l.places)
