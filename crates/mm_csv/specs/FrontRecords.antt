-- What stands at the front of a text of CSV.
use Rattle.std.specs.Prelude.{◌≡◌, ◌++◌, ◌∷◌, ◌==◌, ◌||◌, ℕ, List, [], map, Bool, Some, true}
use Rattle.csv.specs.Machine.{next_record}
use Rattle.csv.specs.Reading.{default_config}
use Rattle.csv.specs.declared.parser.State.TheVariants as st
use Rattle.plain_tables.specs.CsvReading.{Record, BlockColumn, all_of, is_header, row_of}
use Rattle.plain_tables.specs.Tables.{Row}
use Rattle.mm_csv.specs.BlockReading.{records_behind}

-- whether no record begins with the first byte of a text, since it ends a line, or there is none
abbrev pub begins_blank : List ℕ → Bool
begins_blank [] = true
begins_blank (b ∷ rest) = (b == 13) || (b == 10)

-- A record stands at the front of a text, and this is left behind it.
abbrev pub BeginsWith : List ℕ → Record → List ℕ → Type 0
BeginsWith text fields left = next_record default_config st.StartRecord [] [] text ≡ Some (fields, st.StartRecord, left)

-- That record is this row.
abbrev pub BeginsWithRow : List BlockColumn → List ℕ → Row → List ℕ → Type 0
BeginsWithRow columns text row left = (fields : Record) × BeginsWith text fields left × (row_of columns fields ≡ Some row)

-- That record is the header.
abbrev pub BeginsWithHeader : List BlockColumn → List ℕ → List ℕ → Type 0
BeginsWithHeader columns text left = (fields : Record) × BeginsWith text fields left × (is_header columns fields ≡ true)

-- the rows of these records
abbrev pub AreRowsOf : List BlockColumn → List Record → List Row → Type 0
AreRowsOf columns records rows = all_of (map (row_of columns) records) ≡ Some rows

-- Records stand at the front of a text, each a row, and behind them this is left.
abbrev pub BeginsWithRows : List BlockColumn → List ℕ → List Row → List ℕ → Type 0
BeginsWithRows columns text rows left =
    (done : List Record) × (records_behind st.StartRecord text ≡ done ++ records_behind st.StartRecord left) × AreRowsOf columns done rows
