-- Reading CSV: the rows, or the fault, of the records of a block.
use Rattle.std.specs.Prelude.{◌≡◌, ◌<◌, ℕ, ◌+◌, ◌^◌, nat_lt, List, [], ◌∷◌, length, map, take, drop, Bool, ◌&&◌, ◌==◌, not, if◌then◌else◌, Option, Some, None, option_map, is_some, ℤ, pos, negsuc, neg_ℤ, FitsSigned, IsTrue, IsFalse}
use Rattle.std.specs.Int.{w64}
use Rattle.std.specs.List.{AllZip, prefix_len, zip}
use Rattle.std.specs.Option.{option_map_or}
use Rattle.std.specs.Str.{IsUtf8, all_ascii_digits, bytes_eq, is_utf8}
use Rattle.std.specs.Str.Parse.{digits_value, starts_with_minus}
use lib.Pointwise.{pointwise}
use Rattle.plain_tables.specs.Effects.{is_long}
use Rattle.plain_tables.specs.Tables.{Row}
use Rattle.plain_tables.specs.declared.schema.BaseKind.{BaseKind}
use Rattle.plain_tables.specs.declared.schema.BaseKind.TheVariants as kind
use Rattle.plain_tables.specs.declared.value.Value.{Value}
use Rattle.plain_tables.specs.declared.value.Value.TheVariants as value

-- a record is its fields
abbrev pub Record : Type 0
Record = List (List ℕ)

-- A column of a block has a name and the type of its values, and null may stand there or not.
pub record BlockColumn : Type 0 where
  pub name : List ℕ
  pub kind : BaseKind
  pub null : Bool

-- What a block is read as: rows; or it is refused, since its header is bad, or since a record is. The number of that record
-- is counted from 1 behind the header.
pub data Reading : Type 0 where
  Rows : List Row → Reading
  BadHeader : Reading
  BadRecord : ℕ → Reading

-- ---- a field

-- one or more digits
abbrev pub is_numeral : List ℕ → Bool
is_numeral digits = nat_lt 0 (length digits) && all_ascii_digits digits

-- a number without the minus that it may begin with
abbrev pub digits_of : List ℕ → List ℕ
digits_of characters = if starts_with_minus characters then drop 1 characters else characters

-- the integer that the digits of a number say, below 0 if a minus stands before them
abbrev pub number_of : List ℕ → ℤ
number_of characters =
    let magnitude = pos (digits_value 10 (digits_of characters)) in
    if starts_with_minus characters then neg_ℤ magnitude else magnitude

-- whether an integer lies in the range of 64 bits
abbrev pub has_64_bits : ℤ → Bool
has_64_bits (pos n) = nat_lt n (2 ^ 63)
has_64_bits (negsuc n) = nat_lt n (2 ^ 63)

-- The integer of 64 bits that a field is, if it is one: digits, with a minus before them or not. A law joins this to what
-- a command line spells.
abbrev pub integer_of : List ℕ → Option ℤ
integer_of field = if is_numeral (digits_of field) && has_64_bits (number_of field) then Some (number_of field) else None

-- a text is UTF-8 and not too long
abbrev pub text_of : List ℕ → Option Value
text_of field = if is_utf8 field && not (is_long (value.Text field)) then Some (value.Text field) else None

-- a value of this type
abbrev pub plain_value : BaseKind → List ℕ → Option Value
plain_value kind.Int field = option_map value.Int (integer_of field)
plain_value kind.Text field = text_of field

-- What a field is in a column, if it may stand there. If null may, it is the empty field.
abbrev pub field_value : BlockColumn → List ℕ → Option Value
field_value column field =
    if column.null && (length field == 0) then Some value.Null else plain_value column.kind field

-- ---- a record

-- all of them, if none is missing
abbrev pub all_of : {X : Type 0} → List (Option X) → Option (List X)
all_of [] = Some []
all_of (None ∷ xs) = None
all_of (Some x ∷ xs) = option_map (λ others. x ∷ others) (all_of xs)

-- The row of a record, if it is one: it has a field for each column, and each field is a value there.
abbrev pub row_of : List BlockColumn → Record → Option Row
row_of columns fields =
    if length fields == length columns then all_of (map (λ pair. field_value pair.0 pair.1) (zip columns fields)) else None

-- A header is the names of the columns in their order.
abbrev pub is_header : List BlockColumn → Record → Bool
is_header columns fields = pointwise bytes_eq fields (map (λ c. c.name) columns)

-- ---- a block

-- The rows of records, if each is one. Else the first that isn't is bad: as many as are rows stand before it.
abbrev pub rows_reading : List BlockColumn → List Record → Reading
rows_reading columns records =
    option_map_or Rows (all_of (map (row_of columns) records))
    (BadRecord (prefix_len (λ fields. is_some (row_of columns fields)) records + 1))

-- The first record is the header, and behind it stand the rows.
abbrev pub records_reading : List BlockColumn → List Record → Reading
records_reading columns [] = BadHeader
records_reading columns (header ∷ records) = if is_header columns header then rows_reading columns records else BadHeader

-- the bytes that may mark a text as UTF-8
abbrev pub mark : List ℕ
mark = 0xEF ∷ 0xBB ∷ 0xBF ∷ []

-- whether bytes begin with the mark
abbrev pub begins_with_mark : List ℕ → Bool
begins_with_mark bytes = bytes_eq (take 3 bytes) mark

-- bytes without the mark at their front, taken off once
abbrev pub without_mark : List ℕ → List ℕ
without_mark bytes = if begins_with_mark bytes then drop 3 bytes else bytes

-- ---- values that are written and read again

-- What a column of a block gives back as it was written: null where it may stand, an integer of 64 bits, and a text that is
-- UTF-8 and not too long. Where null may stand the text isn't empty, since an empty field is null there.
abbrev pub Fits : BlockColumn → Value → Type 0
Fits column value.Null = IsTrue column.null
Fits column (value.Int z) = (column.kind ≡ kind.Int) × FitsSigned w64 z
Fits column (value.Text text) =
    (column.kind ≡ kind.Text) × IsUtf8 text × IsFalse (is_long (value.Text text)) × (IsTrue column.null → 0 < length text)

-- a row has one value for each column, which fits it
abbrev pub FitsRow : List BlockColumn → Row → Type 0
FitsRow columns row = AllZip Fits columns row
