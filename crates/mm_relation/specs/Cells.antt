-- Cells as rows keep them, in one stored value each.
use Rattle.std.specs.Prelude.{ℕ, Option, Some, None}
use Rattle.plain_tables.specs.declared.value.Value.{Value}
use Rattle.plain_tables.specs.Stored.{link_number}
use Rattle.mm_relation.specs.declared.row.Cell.{Cell}
use Rattle.mm_relation.specs.declared.row.Cell.TheVariants.{Held, Link}
use Rattle.mm_relation.specs.declared.stored_cell.SeenCell.{SeenCell}
use Rattle.mm_relation.specs.declared.stored_cell.SeenCell.TheVariants as seen

-- the cell of a value that links to this row, or to none
abbrev pub cell_with : Value → Option ℕ → Cell
cell_with value None = Held value
cell_with value (Some n) = Link (record { number = n })

-- the cell that is kept as this value
abbrev pub cell_kept : Value → Cell
cell_kept value = cell_with value (link_number value)

-- the cell that was lent
abbrev pub cell_seen : SeenCell → Cell
cell_seen (seen.Held value) = Held value.now
cell_seen (seen.Link to) = Link to
