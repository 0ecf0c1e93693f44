use Rattle.std.proofs.Common.{◌≡◌, ◌+◌, ◌*◌, ◌++◌, length, map}
use Rattle.std.specs.List.{All, flat_map}
use Rattle.mm_cells.specs.Reading.{cell_value}
use Rattle.mm_database.specs.Given.{IsCell, IsWritten}
use Rattle.mm_database.proofs.given.rows_of.Given as goal

abbrev pub invariant-loop-rest : goal.invariant-loop-rest
invariant-loop-rest l = record {
  all : map (cell_value l.texts) l.cells ≡ flat_map (λ row. row) l.rows.items ++ map (cell_value l.texts) l.rest;
  each : All (λ row. length row ≡ l.places) l.rows.items;
  count : length l.cells ≡ length l.rows.items * l.places + length l.rest;
  cells : All (IsCell l.texts) l.cells → All (IsCell l.texts) l.rest;
  written : All (IsWritten l.texts) l.cells → All (IsWritten l.texts) l.rest;
}

abbrev pub decreases-loop-rest : goal.decreases-loop-rest
decreases-loop-rest l = length l.rest
