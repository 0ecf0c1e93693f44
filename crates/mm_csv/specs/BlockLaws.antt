-- Laws of blocks of CSV.
use Rattle.std.specs.Prelude.{◌≡◌, ◌↔◌, ◌<◌, ℕ, ℤ, List, Some, length, map}
use Rattle.std.specs.List.{All}
use Rattle.plain_tables.specs.Csv.{block_text}
use Rattle.plain_tables.specs.CsvReading.{BlockColumn, FitsRow, Rows, integer_of}
use Rattle.plain_tables.specs.Names.{IsName}
use Rattle.plain_tables.specs.Spelling.{IsInteger}
use Rattle.plain_tables.specs.Tables.{Row}
use Rattle.mm_csv.specs.BlockReading.{block_reading}

-- the block of names and rows is read as these rows
abbrev pub BlocksReadBack : Type 0
BlocksReadBack =
    (columns : List BlockColumn) (rows : List Row) → 0 < length columns → All (λ c. IsName c.name) columns → All (FitsRow columns) rows
    → block_reading columns (block_text (map (λ c. c.name) columns) rows) ≡ Rows rows

-- a field is the integer that these characters spell in a command
abbrev pub FieldsSpellIntegers : Type 0
FieldsSpellIntegers = (field : List ℕ) (z : ℤ) → (integer_of field ≡ Some z) ↔ IsInteger field z
