-- Given: the rows of values that cells are which C hands in.
use Rattle.std.specs.Prelude.{◌≡◌, ◌+◌, ◌*◌, ◌<◌, ◌≤◌, ◌⊎◌, ℕ, List, length, slice_range}
use Rattle.std.specs.List.{All, flat_map}
use Rattle.std.specs.Str.{IsUtf8}
use Rattle.plain_tables.specs.declared.value.Value.{Value}
use Rattle.mm_cells.specs.declared.cells.ResultCell.{ResultCell}

-- the bytes of a cell's text among these
abbrev pub text_in : List ℕ → ResultCell → List ℕ
text_in texts c = slice_range texts c.at (c.at + c.length)

-- A cell can be taken as a value: it is of one of the three kinds, and a text's bytes are among these.
pub record IsCell (texts : List ℕ) (c : ResultCell) : Type 0 where
  pub kind : c.kind ≤ 2
  pub within : c.kind ≡ 2 → c.at + c.length ≤ length texts

-- a text is UTF-8
abbrev pub IsWritten : List ℕ → ResultCell → Type 0
IsWritten texts c = c.kind ≡ 2 → IsUtf8 (text_in texts c)

-- Rows of so many values each, which are these values one behind the other.
pub record AreRows (places : ℕ) (values : List Value) (rows : List (List Value)) : Type 0 where
  pub all : flat_map (λ row. row) rows ≡ values
  pub each : All (λ row. length row ≡ places) rows

-- So many values are some rows of so many values each, and a part of one more.
pub record EndsEarly (places count : ℕ) : Type 0 where
  pub rows : ℕ
  pub part : ℕ
  pub is : count ≡ rows * places + part
  pub some : 0 < part
  pub short : (part < places) ⊎ (places ≡ 0)

-- Cells are no rows of so many values each: one of them can't be taken as a value, or the last row ends early.
abbrev pub AreNoRows : ℕ → List ℕ → List ResultCell → Type 0
AreNoRows places texts cells = ¬ (All (IsCell texts) cells) ⊎ EndsEarly places (length cells)
