use Rattle.std.proofs.Common.{◌≡◌, Some, map, take}
use Rattle.plain_tables.specs.CsvReading.{all_of}
use Rattle.plain_tables.specs.Resolving.{block_column}
use Rattle.mm_csv.specs.BlockReading.{columns_of}
use Rattle.mm_resolver.proofs.load.layout.Given as goal

abbrev pub invariant-loop-column : goal.invariant-loop-column
invariant-loop-column g l =
    all_of (map (block_column (g.S.Schemas.database l.schemas)) (take l.column-index l.columns)) ≡ Some (columns_of l.layout.items)
