-- CSV: rows as records of fields between commas, each record ended by a line feed.
use Rattle.std.specs.Prelude.{ℕ, List, [], ◌∷◌, ◌++◌, ◌==◌, ◌||◌, Bool, if◌then◌else◌, map}
use Rattle.std.specs.List.{flat_map, list_any}
use Rattle.std.specs.Fmt.{signed_decimal}
use Rattle.plain_tables.specs.Tables.{Row}
use Rattle.plain_tables.specs.declared.value.Value.{Value}
use Rattle.plain_tables.specs.declared.value.Value.TheVariants.{Null, Int, Text}

-- a comma, a quote mark, a carriage return or a line feed
abbrev pub calls_for_quotes : ℕ → Bool
calls_for_quotes b = (b == 44) || (b == 34) || (b == 13) || (b == 10)

-- whether a field holds such a byte, and so must be quoted
abbrev pub needs_quotes : List ℕ → Bool
needs_quotes field = list_any calls_for_quotes field

-- a quote mark inside a quoted field is doubled: another stands before it
abbrev pub doubled : ℕ → List ℕ
doubled b = if b == 34 then 34 ∷ b ∷ [] else b ∷ []

-- a field between quote marks
abbrev pub quoted : List ℕ → List ℕ
quoted field = 34 ∷ (flat_map doubled field ++ 34 ∷ [])

-- a field as it is written: quoted if it must be, or else as it is
abbrev pub field_text : List ℕ → List ℕ
field_text field = if needs_quotes field then quoted field else field

-- fields, each but the first behind a comma
abbrev pub joined : List (List ℕ) → List ℕ
joined [] = []
joined (field ∷ fields) = field_text field ++ flat_map (λ f. 44 ∷ field_text f) fields

-- A record is its fields and a line feed. If it is one field, and that is empty, a pair of quote marks shows it.
abbrev pub record_text : List (List ℕ) → List ℕ
record_text ([] ∷ []) = 34 ∷ 34 ∷ 10 ∷ []
record_text fields = joined fields ++ 10 ∷ []

-- a null is written as nothing, an integer in decimal digits, a text as it is
abbrev pub value_field : Value → List ℕ
value_field Null = []
value_field (Int z) = signed_decimal z
value_field (Text text) = text

-- the record of a row
abbrev pub row_record : Row → List ℕ
row_record row = record_text (map value_field row)

-- A block is the record of the names, and then that of each row.
abbrev pub block_text : List (List ℕ) → List Row → List ℕ
block_text names rows = record_text names ++ flat_map row_record rows
