use Rattle.std.proofs.Common.{◌≡◌, length, map, take}
use Rattle.std.specs.List.{All}
use Rattle.mm_cells.specs.Reading.{cell_value}
use Rattle.mm_database.specs.Given.{IsCell}
use Rattle.mm_database.proofs.given.row_of.Given as goal

abbrev pub invariant-loop-place : goal.invariant-loop-place
invariant-loop-place l = record {
  len : length l.row ≡ length l.cells;
  taken : take l.place l.row ≡ map (cell_value l.texts) (take l.place l.cells);
  cells : All (IsCell l.texts) (take l.place l.cells);
}
