-- Cells: the values that they are.
use Rattle.std.specs.Prelude.{◌≤◌, length}
use Rattle.plain_tables.specs.declared.value.Value.{Value}
use Rattle.plain_tables.specs.declared.value.Value.TheVariants as value
use Rattle.mm_prepared.specs.declared.lent_value.LentValue.{LentValue}
use Rattle.mm_prepared.specs.declared.lent_value.LentValue.TheVariants.{Null, Integer, Text}

-- the value that a cell is
abbrev pub cell_value : LentValue → Value
cell_value Null = value.Null
cell_value (Integer z) = value.Int z
cell_value (Text text) = value.Text text.now

-- the value is a null, an integer, or a text of at most 14 bytes, which is kept without memory of its own
abbrev pub IsSmall : LentValue → Type 0
IsSmall (Text text) = length text.now ≤ 14
IsSmall other = Unit {0}
