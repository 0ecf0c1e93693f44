-- Blocks: the rows that records are read as in a table can be inserted into it.
use Rattle.std.proofs.Common.{◌≡◌, ◌^◌, ℕ, true, false, not, length, map, arith, List, [], ◌∷◌, inl, inr, refl, sym, ap, subst, Option, Some, None}
use Rattle.std.specs.Prelude.{zip, ℤ, pos, negsuc, FitsSigned, ◌==◌, ◌&&◌, nat_lt}
use Rattle.std.specs.Int.{w64}
use Rattle.std.specs.List.{All}
use Rattle.std.specs.Option.{option_map_or}
use Rattle.std.specs.Str.{is_utf8}
use Rattle.std.proofs.lemmas.Bool.{cases_Bool, and_parts, or_from, not_from_true, not-true, ltb-true, ltb-false, eqb-true}
use Rattle.std.proofs.lemmas.List.Elements.{All-nil, All-cons}
use Rattle.std.proofs.lemmas.Option.{cond_some, none-some, same_Some}
use Rattle.plain_tables.specs.Tables.{Table, Row}
use Rattle.plain_tables.specs.Databases.{Database}
use Rattle.plain_tables.specs.Effects.{is_long}
use Rattle.plain_tables.specs.References.{takes_null, type_of, has_type, is_typed}
use Rattle.plain_tables.specs.CsvReading.{Record, BlockColumn, Rows, BadHeader, BadRecord, is_numeral, digits_of, number_of, has_64_bits, integer_of, plain_value, field_value, all_of, row_of, is_header, rows_reading, records_reading}
use Rattle.plain_tables.specs.Resolving.{has_mistyped, block_column, block_columns, table_reading}
use Rattle.plain_tables.specs.ResolvedLaws.{IsStorable, IsInsertable}
use Rattle.plain_tables.specs.declared.value.Value.{Value}
use Rattle.plain_tables.specs.declared.value.Value.TheVariants as value
use Rattle.plain_tables.specs.declared.schema.BaseKind.{BaseKind}
use Rattle.plain_tables.specs.declared.schema.BaseKind.TheVariants as kind
use Rattle.plain_tables.specs.declared.schema.Column.{Column}
use Rattle.common_lemmas.proofs.Options.{option_map_some}

-- ---- all of a list

pub all_parts : {X : Type 0} (o : Option X) (os : List (Option X)) (ys : List X) → all_of (o ∷ os) ≡ Some ys
    → (x : X) × (xs : List X) × (o ≡ Some x) × (all_of os ≡ Some xs) × (x ∷ xs ≡ ys)
all_parts None os ys h = absurd (none-some ys h)
all_parts (Some x) os ys h =
    let rest = option_map_some (λ others. x ∷ others) (all_of os) ys h in (x, rest.0, refl, rest.1, rest.2)

all_satisfy : {X Y : Type 0} (P : Y → Type 0) (f : X → Option Y) (xs : List X) (ys : List Y) → all_of (map f xs) ≡ Some ys
    → ((x : X) (y : Y) → f x ≡ Some y → P y) → All P ys
all_satisfy P f [] ys h holds = subst (All P) (same_Some [] ys h) (All-nil P)
all_satisfy P f (x ∷ xs) ys h holds =
    let (y, others, first, rest, same) = all_parts (f x) (map f xs) ys h in
    subst (All P) same (All-cons P y others (holds x y first) (all_satisfy P f xs others rest holds))

-- ---- fields

-- a value that can stand in a column, if its reference is held
abbrev CanStand : Database → Column → Value → Type 0
CanStand tables column v = (is_typed tables v column.kind ≡ true) × IsStorable v

pub fits_64_bits : (z : ℤ) → has_64_bits z ≡ true → FitsSigned w64 z
fits_64_bits (pos n) has = record { sfits = ltb-true n (2 ^ 63) has }
fits_64_bits (negsuc n) has = record { sfits = ltb-true n (2 ^ 63) has }

plain_stands : (tables : Database) (column : Column) (k : BaseKind) (field : List ℕ) (v : Value)
    → type_of tables column.kind ≡ Some k
    → plain_value k field ≡ Some v → CanStand tables column v
plain_stands tables column kind.Int field v type read =
    let (z, there, same) = option_map_some value.Int (integer_of field) v read in
    let integer = cond_some (is_numeral (digits_of field) && has_64_bits (number_of field)) (number_of field) z there in
    subst (CanStand tables column) same (
      ap (λ t. option_map_or (has_type (value.Int z)) t false) type,
      subst (FitsSigned w64) integer.1 (fits_64_bits (number_of field)
          (and_parts (is_numeral (digits_of field)) (has_64_bits (number_of field)) integer.0).1),
    )
plain_stands tables column kind.Text field v type read =
    let text = cond_some (is_utf8 field && not (is_long (value.Text field))) (value.Text field) v read in
    let short = (and_parts (is_utf8 field) (not (is_long (value.Text field))) text.0).1 in
    subst (CanStand tables column) text.1 (
      ap (λ t. option_map_or (has_type (value.Text field)) t false) type,
      ltb-false 1024 (length field) (not-true (nat_lt 1024 (length field)) short),
    )

field_stands : (tables : Database) (column : Column) (block : BlockColumn) (field : List ℕ) (v : Value)
    → block_column tables column ≡ Some block → field_value block field ≡ Some v → CanStand tables column v
field_stands tables column block field v of read =
    let (k, type, same) = option_map_some (λ k. record { name = column.name; kind = k; null = takes_null column.kind })
    (type_of tables column.kind) block of in
    let here : field_value (record { name = column.name; kind = k; null = takes_null column.kind }) field ≡ Some v =
    subst (λ (b : BlockColumn). field_value b field ≡ Some v) (sym same) read in
    elim (cases_Bool (takes_null column.kind && (length field == 0))) [
      | inl null ↦
          subst (CanStand tables column) (same_Some value.Null v (rw null at here))
          ((and_parts (takes_null column.kind) (length field == 0) null).0, tt)
      | inr plain ↦ plain_stands tables column k field v type (rw plain at here)
    ]

-- ---- records

-- a row with a value for each column, which can stand there
abbrev CanStandRow : Database → List Column → Row → Type 0
CanStandRow tables columns row = (length row ≡ length columns) × (has_mistyped tables columns row ≡ false) × All IsStorable row

fields_stand : (tables : Database) (columns : List Column) (blocks : List BlockColumn) (fields : Record) (row : Row)
    → all_of (map (block_column tables) columns) ≡ Some blocks → length fields ≡ length blocks
    → all_of (map (λ pair. field_value pair.0 pair.1) (zip blocks fields)) ≡ Some row → CanStandRow tables columns row
fields_stand tables [] [] fields row of counted read =
    subst (CanStandRow tables []) (same_Some [] row read) (refl, refl, All-nil IsStorable)
fields_stand tables [] (b ∷ blocks) fields row of counted read = let clash : [] ≡ b ∷ blocks = same_Some [] (b ∷ blocks) of in cc
fields_stand tables (c ∷ columns) [] fields row of counted read =
    let (b, bs, first, rest, same) = all_parts (block_column tables c) (map (block_column tables) columns) [] of in cc
fields_stand tables (c ∷ columns) (b ∷ blocks) [] row of counted read = absurd (omega arith)
fields_stand tables (c ∷ columns) (b ∷ blocks) (field ∷ fields) row of counted read =
    let (d, ds, block, blocks_of, same) = all_parts (block_column tables c) (map (block_column tables) columns) (b ∷ blocks) of in
    let (v, values, value_of, values_of, row_is) =
    all_parts (field_value b field) (map (λ pair. field_value pair.0 pair.1) (zip blocks fields)) row read in
    let first : d ≡ b = cc in
    let others : ds ≡ blocks = cc in
    let stands = field_stands tables c b field v (subst (λ x. block_column tables c ≡ Some x) first block) value_of in
    let rest = fields_stand tables columns blocks fields values
    (subst (λ xs. all_of (map (block_column tables) columns) ≡ Some xs) others blocks_of)
    (omega arith) values_of in
    subst (CanStandRow tables (c ∷ columns)) row_is (
      (let counts = rest.0 in omega arith),
      or_from (not (is_typed tables v c.kind)) (has_mistyped tables columns values)
          (not_from_true (is_typed tables v c.kind) stands.0) rest.1,
      All-cons IsStorable v values stands.1 rest.2,
    )

row_insertable : (tables : Database) (table : Table) (blocks : List BlockColumn) (fields : Record) (row : Row)
    → block_columns tables table ≡ Some blocks → row_of blocks fields ≡ Some row → IsInsertable tables row table
row_insertable tables table blocks fields row of read =
    elim (cases_Bool (length fields == length blocks)) [
      | inl same ↦
          let stands = fields_stand tables table.columns blocks fields row of (eqb-true (length fields) (length blocks) same)
          (rw same at read) in
          record { counted = stands.0; typed = stands.1; storable = stands.2 }
      | inr other ↦ absurd (none-some row (rw other at read))
    ]

-- ---- blocks

same_Rows : (rows others : List Row) → Rows rows ≡ Rows others → rows ≡ others
same_Rows rows others same = cc

rows_read : (blocks : List BlockColumn) (records : List Record) (rows : List Row) → rows_reading blocks records ≡ Rows rows
    → all_of (map (row_of blocks) records) ≡ Some rows
rows_read blocks records rows h = by (all_of (map (row_of blocks) records)) _ h
  where
    by : (found : Option (List Row)) (bad : ℕ) → option_map_or Rows found (BadRecord bad) ≡ Rows rows → found ≡ Some rows
    by None bad h = cc
    by (Some others) bad h = ap (λ xs. Some xs) (same_Rows others rows h)

block_read : (blocks : List BlockColumn) (records : List Record) (rows : List Row) → records_reading blocks records ≡ Rows rows
    → (behind : List Record) × (all_of (map (row_of blocks) behind) ≡ Some rows)
block_read blocks [] rows h = cc
block_read blocks (header ∷ records) rows h =
    elim (cases_Bool (is_header blocks header)) [
      | inl right ↦ (records, rows_read blocks records rows (rw right at h))
      | inr wrong ↦ let clash : BadHeader ≡ Rows rows = rw wrong at h in cc
    ]

columns_read : (found : Option (List BlockColumn)) (records : List Record) (rows : List Row)
    → option_map_or (λ blocks. records_reading blocks records) found BadHeader ≡ Rows rows
    → (blocks : List BlockColumn) × (found ≡ Some blocks) × (records_reading blocks records ≡ Rows rows)
columns_read None records rows h = cc
columns_read (Some blocks) records rows h = (blocks, refl, h)

pub read_insertable : (tables : Database) (table : Table) (records : List Record) (rows : List Row)
    → table_reading tables table records ≡ Rows rows → All (λ row. IsInsertable tables row table) rows
read_insertable tables table records rows h =
    let (blocks, of, reading) = columns_read (block_columns tables table) records rows h in
    let (behind, read) = block_read blocks records rows reading in
    all_satisfy (λ row. IsInsertable tables row table) (row_of blocks) behind rows read
    (λ fields row there. row_insertable tables table blocks fields row of there)
