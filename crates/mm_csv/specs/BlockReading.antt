-- What a block of CSV is read as: its records are those that the crate csv states.
use Rattle.std.specs.Prelude.{◌≡◌, ◌+◌, ℕ, List, [], ◌∷◌, map, length, Bool, false, Option, Some, IsSome, if◌then◌else◌}
use Rattle.std.specs.Bool.{MatchBool}
use Rattle.std.specs.Borrow.{Bor}
use Rattle.std.specs.Option.{option_map_or}
use Rattle.csv.specs.Machine.{ends_at_end}
use Rattle.csv.specs.Reading as Csv
use Rattle.csv.specs.declared.parser.State.{State}
use Rattle.csv.specs.declared.reader.Reader.{Reader}
use Rattle.csv.specs.declared.reader.Trim.TheVariants as trim
use Rattle.plain_tables.specs.CsvReading.{Record, BlockColumn, Reading, BadHeader, BadRecord, begins_with_mark, records_reading, without_mark}
use Rattle.mm_csv.specs.declared.csv_refusal.CsvRefusal.{CsvRefusal}
use Rattle.mm_csv.specs.declared.csv_refusal.CsvRefusal.TheVariants as refusal
use Rattle.mm_csv.specs.declared.field.Field.{Field}

-- the column that a field of a layout says
abbrev pub column_of : Field → BlockColumn
column_of field = record { name = field.name; kind = field.kind; null = field.null }

-- the columns of a layout
abbrev pub columns_of : List Field → List BlockColumn
columns_of layout = map column_of layout

-- The records of a block. The mark at its front is taken off once; if another stands behind it there are none. Else the
-- records are those that the crate csv states of a text, with the settings that it begins with.
abbrev pub block_records : List ℕ → List Record
block_records block =
    if begins_with_mark (without_mark block) then [] else Csv.records Csv.default_config (without_mark block)

-- what a block is read as
abbrev pub block_reading : List BlockColumn → List ℕ → Reading
block_reading columns block = records_reading columns (block_records block)

-- A refusal says what the block is read as. Where no memory was found it says nothing.
abbrev pub Tells : CsvRefusal → Reading → Type 0
Tells refusal.Header reading = reading ≡ BadHeader
Tells (refusal.BadRow k) reading = reading ≡ BadRecord k
Tells refusal.NoMemory reading = Unit {0}

-- ---- a reader of records

-- what a text that is lent holds yet
abbrev pub remaining : Bor (List ℕ) → Option (List ℕ)
remaining text = Some text.now

-- the records of a text from a state of the crate csv on
abbrev pub records_behind : State → List ℕ → List (List (List ℕ))
records_behind state text = Csv.records_from Csv.default_config (length text + 1) state text

-- the records that a reader will read yet
abbrev pub records_left : Reader (Bor (List ℕ)) → List (List (List ℕ))
records_left reader = option_map_or (records_behind (Csv.reader_state reader)) (Csv.source_of remaining reader) []

-- A reader with the settings that it begins with stands between two records, and what it will read is known.
pub record IsReading (reader : Reader (Bor (List ℕ))) : Type 0 where
  pub settings : Csv.reader_config reader ≡ Csv.default_config
  pub trim : Csv.reader_trim reader ≡ trim.None
  pub ready : Csv.Ready reader
  pub source : IsSome (Csv.source_of remaining reader)
  pub between : ends_at_end (Csv.reader_state reader) ≡ false

-- One record was read, if one was left.
abbrev pub ReadsRecord : Bool → List (List (List ℕ)) → List (List (List ℕ)) → List (List ℕ) → Type 0
ReadsRecord found before after fields = MatchBool found (before ≡ fields ∷ after) (before ≡ [])
