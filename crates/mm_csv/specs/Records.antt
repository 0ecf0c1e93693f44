-- What a record writer writes, field by field.
use Rattle.std.specs.Prelude.{Bool, ◌≡◌, ◌==◌, ◌||◌, ◌&&◌, ℕ, List, [], ◌∷◌, ◌++◌, Option, true, false, length, if◌then◌else◌}
use Rattle.std.specs.Io.KnownBytes.{Appends}
use Rattle.std.specs.List.{flat_map}
use Rattle.csv.specs.declared.writer.Writer.{Writer}
use Rattle.csv.specs.declared.writer.WriterBuilder.{WriterBuilder}
use Rattle.csv.specs.Writing as Csv
use Rattle.plain_tables.specs.Csv.{needs_quotes, quoted}

-- ---- a record of the crate csv

-- commas, quotes only where they are needed, a line feed at the end, and records of any lengths
abbrev pub setup : WriterBuilder
setup = Csv.with_flexible Csv.default_writer true

-- No field of a record is written yet.
abbrev pub IsBetweenRecords : {W : Type 0} → Writer W → Type 0
IsBetweenRecords w = (Csv.writer_setup w ≡ setup) × (Csv.fields_written w ≡ 0) × (Csv.has_written w ≡ false)

-- The same, and its buffer is empty.
abbrev pub IsIdle : {W : Type 0} → Writer W → Type 0
IsIdle w = IsBetweenRecords w × (Csv.writer_pending w ≡ [])

-- ---- a record that is written straight

-- what stands before the field at a place of its record
abbrev pub comma : ℕ → List ℕ
comma place = if place == 0 then [] else 44 ∷ []

-- a field that may stand between quotes: one that holds a byte that calls for them, or an empty one
abbrev pub StandsInQuotes : List ℕ → Type 0
StandsInQuotes field = (needs_quotes field || (length field == 0)) ≡ true

-- a field as it stands in its record: one that is empty and alone there stands between quotes too
abbrev pub shown : Bool → List ℕ → List ℕ
shown alone field = if needs_quotes field || (alone && (length field == 0)) then quoted field else field

-- fields as they stand in their record, each but the first behind a comma
abbrev pub shown_fields : Bool → List (List ℕ) → List ℕ
shown_fields alone [] = []
shown_fields alone (field ∷ fields) = shown alone field ++ flat_map (λ f. 44 ∷ shown alone f) fields

-- One more field is written behind those before its place.
abbrev pub AddsField : Bool → ℕ → Option (List ℕ) → Option (List ℕ) → List ℕ → Type 0
AddsField alone place old new field =
    (before : Option (List ℕ)) (fields : List (List ℕ)) → length fields ≡ place → Appends before old (shown_fields alone fields)
    → Appends before new (shown_fields alone (fields ++ field ∷ []))

-- ---- a record writer

-- What is seen of a record writer: whether a call on it has failed, and every byte so far, where that is known.
pub record Written : Type 0 where
  pub failed : Bool
  pub bytes : Option (List ℕ)
