-- Reading: the value that a cell is, and when a value is too long for one.
use Rattle.std.specs.Prelude.{ℕ, ◌+◌, ◌<◌, ◌≤◌, ◌^◌, ◌⊎◌, List, [], if◌then◌else◌, ◌==◌, slice_range, length}
use Rattle.std.specs.List.{flat_map}
use Rattle.plain_tables.specs.declared.value.Value.{Value}
use Rattle.plain_tables.specs.declared.value.Value.TheVariants as value
use Rattle.mm_cells.specs.declared.cells.ResultCell.{ResultCell}

-- what a cell is read as
abbrev pub Read : Type 0
Read = Value

-- The value that a cell is: of the kind 1 its integer, of the kind 2 the text that stands at its place among these bytes, and of any
-- other null.
abbrev pub cell_value : List ℕ → ResultCell → Value
cell_value texts c =
    if c.kind == 1 then value.Int c.integer
    else if c.kind == 2 then value.Text (slice_range texts c.at (c.at + c.length))
    else value.Null

-- A cell can be read: it is of one of the three kinds, and its text ends within these bytes.
pub record IsReadable (texts : List ℕ) (c : ResultCell) : Type 0 where
  pub kind : c.kind ≤ 2
  pub within : c.at + c.length ≤ length texts

-- the bytes of a value's text; another value has none
abbrev pub text_of : Value → List ℕ
text_of (value.Text text) = text
text_of other = []

-- the texts of values, one behind the other
abbrev pub texts_of : List Value → List ℕ
texts_of values = flat_map text_of values

-- the texts of values have 2^32 bytes or more: no text has a place behind them
abbrev pub AreFull : List Value → Type 0
AreFull values = 2 ^ 32 ≤ length (texts_of values)

-- A value is too long for a cell behind these: it is a text of more than 65,535 bytes, or one behind texts of 2^32 bytes or more.
abbrev pub IsTooLong : List Value → Value → Type 0
IsTooLong before (value.Text text) = (65535 < length text) ⊎ AreFull before
IsTooLong before other = ⊥
