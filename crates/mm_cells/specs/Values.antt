-- Values: what cells and the bytes of their texts are.
use Rattle.std.specs.Prelude.{List, map}
use Rattle.mm_cells.specs.Reading.{Read, cell_value}
use Rattle.mm_cells.specs.declared.cells.Cells.{Cells}

-- what is read of the cells
abbrev pub values_of : Cells → List Read
values_of cells = map (cell_value cells.texts.items) cells.cells.items
