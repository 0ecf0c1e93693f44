-- Types of columns, and of rows, in two databases of which tables of one name have keys of one type.
use Rattle.std.proofs.Common.{◌≡◌, ℕ, map, false, List, refl, ap, subst, Option, Some, None}
use Rattle.std.specs.Prelude.{not, zip}
use Rattle.std.specs.List.{AllZip, slice_get}
use Rattle.std.specs.Option.{option_map, option_map_or, option_and_then}
use Rattle.plain_tables.specs.Tables.{Table, Row}
use Rattle.plain_tables.specs.Databases.{Database, table_named}
use Rattle.plain_tables.specs.References.{referred, takes_null, own_type, key_type, type_of, has_type, is_typed}
use Rattle.plain_tables.specs.CsvReading.{Record, BadHeader, all_of, records_reading}
use Rattle.plain_tables.specs.Resolving.{has_mistyped, block_column, table_reading}
use Rattle.plain_tables.specs.ResolvedLaws.{IsInsertable}
use Rattle.plain_tables.specs.declared.value.Value.{Value}
use Rattle.plain_tables.specs.declared.value.Value.TheVariants as value
use Rattle.plain_tables.specs.declared.schema.BaseKind.{BaseKind}
use Rattle.plain_tables.specs.declared.schema.ColKind.{ColKind}
use Rattle.plain_tables.specs.declared.schema.Column.{Column}
use Rattle.common_lemmas.proofs.Tests.{any_agree}
use Rattle.common_lemmas.proofs.Maps.{map_agree}
use Rattle.plain_tables.proofs.Referring.{HasShape, named_alike}

-- tables of one name have keys of one type
abbrev pub AreKeyedAlike : Database → Database → Type 0
AreKeyedAlike tables others =
    (name : List ℕ) → option_and_then key_type (table_named name tables) ≡ option_and_then key_type (table_named name others)

-- tables of the same names and columns have such keys
pub shaped_keyed : (tables others : Database) → AllZip HasShape tables others → AreKeyedAlike tables others
shaped_keyed tables others same name =
    named_alike (λ a b. option_and_then key_type a ≡ option_and_then key_type b) refl
    (λ t u alike. ap (λ columns. option_and_then (λ c. own_type c.kind) (slice_get columns 0)) alike.1) name tables others same

referred_type : (tables others : Database) → AreKeyedAlike tables others → (found : Option (List ℕ)) (own : Option BaseKind)
    → option_map_or (λ name. option_and_then key_type (table_named name tables)) found own
    ≡ option_map_or (λ name. option_and_then key_type (table_named name others)) found own
referred_type tables others same None own = refl
referred_type tables others same (Some name) own = same name

pub type_alike : (tables others : Database) → AreKeyedAlike tables others → (k : ColKind) → type_of tables k ≡ type_of others k
type_alike tables others same k = referred_type tables others same (referred k) (own_type k)

pub typed_alike : (tables others : Database) → AreKeyedAlike tables others → (v : Value) (k : ColKind)
    → is_typed tables v k ≡ is_typed others v k
typed_alike tables others same value.Null k = refl
typed_alike tables others same v k = ap (λ t. option_map_or (has_type v) t false) (type_alike tables others same k)

pub row_alike : (tables others : Database) → AreKeyedAlike tables others → (columns : List Column) (row : Row)
    → has_mistyped tables columns row ≡ has_mistyped others columns row
row_alike tables others same columns row =
    any_agree (λ c. not (is_typed tables c.1 c.0.kind)) (λ c. not (is_typed others c.1 c.0.kind))
    (λ c. ap not (typed_alike tables others same c.1 c.0.kind)) (zip columns row)

-- a row that can be inserted still can where the tables have the same names and columns
pub insertable_alike : (tables others : Database) (row : Row) (t u : Table) → AllZip HasShape tables others → t.columns ≡ u.columns
    → IsInsertable tables row t → IsInsertable others row u
insertable_alike tables others row t u same columns can =
    subst (λ cs. IsInsertable others row (record u { columns = cs })) columns (record {
      counted = can.counted;
      typed = subst (λ b. b ≡ false) (row_alike tables others (shaped_keyed tables others same) t.columns row) can.typed;
      storable = can.storable;
    })

-- ---- blocks

columns_alike : (tables others : Database) → AreKeyedAlike tables others → (columns : List Column)
    → all_of (map (block_column tables) columns) ≡ all_of (map (block_column others) columns)
columns_alike tables others same columns =
    ap all_of (map_agree (block_column tables) (block_column others)
    (λ c. ap (option_map (λ k. record { name = c.name; kind = k; null = takes_null c.kind }))
    (type_alike tables others same c.kind)) columns)

-- records are read alike in a table
pub reading_alike : (tables others : Database) → AreKeyedAlike tables others → (table : Table) (records : List Record)
    → table_reading tables table records ≡ table_reading others table records
reading_alike tables others same table records =
    ap (λ columns. option_map_or (λ cs. records_reading cs records) columns BadHeader)
    (columns_alike tables others same table.columns)
