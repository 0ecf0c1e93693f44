-- References: the tables that columns refer to, and the rows that their values name.
use Rattle.std.specs.Prelude.{◌≡◌, ◌≢◌, ℕ, ◌<◌, ◌≤◌, List, [], ◌∷◌, ◌++◌, Bool, false, true, ◌&&◌, ◌==◌, length, Option, Some, None, is_some, IsSome, IsTrue, FitsSigned, slice_get, zip}
use Rattle.std.specs.Int.{w64}
use Rattle.std.specs.List.{All, AllPairs, filter_map, flat_map, list_any}
use Rattle.std.specs.Option.{option_and_then, option_map, option_map_or}
use Rattle.std.specs.Str.{bytes_eq}
use Rattle.std.specs.Ordering.{is_eq}
use Rattle.plain_tables.specs.Names.{IsName}
use Rattle.plain_tables.specs.Tables.{Table, Row, key_cmp, AreRising, has_key_of}
use Rattle.plain_tables.specs.Databases.{Database, table_named}
use Rattle.plain_tables.specs.declared.value.Value.{Value}
use Rattle.plain_tables.specs.declared.value.Value.TheVariants as value
use Rattle.plain_tables.specs.declared.schema.BaseKind.{BaseKind}
use Rattle.plain_tables.specs.declared.schema.BaseKind.TheVariants as base
use Rattle.plain_tables.specs.declared.schema.ColKind.{ColKind}
use Rattle.plain_tables.specs.declared.schema.ColKind.TheVariants as kind
use Rattle.plain_tables.specs.declared.schema.Column.{Column}
use Rattle.plain_tables.specs.declared.schema.IndexKind.{IndexKind}
use Rattle.plain_tables.specs.declared.schema.IndexKind.TheVariants as index
use Rattle.plain_tables.specs.declared.command.Limits.{Limits}
use Rattle.plain_tables.specs.declared.numbers.ColumnNumber.{ColumnNumber}

-- ---- the types of columns

-- the table that a column refers to, by its name
abbrev pub referred : ColKind → Option (List ℕ)
referred kind.Int = None
referred kind.Text = None
referred (kind.Ref table) = Some table
referred (kind.RefOrNull table) = Some table

-- whether nulls can stand in a column
abbrev pub takes_null : ColKind → Bool
takes_null (kind.RefOrNull table) = true
takes_null k = false

-- the type of a column's values, unless it refers to a table
abbrev pub own_type : ColKind → Option BaseKind
own_type kind.Int = Some base.Int
own_type kind.Text = Some base.Text
own_type k = None

-- the type of a table's keys
abbrev pub key_type : Table → Option BaseKind
key_type table = option_and_then (λ c. own_type c.kind) (slice_get table.columns 0)

-- The type of a column's values. A reference column's are keys of the table that it refers to.
abbrev pub type_of : Database → ColKind → Option BaseKind
type_of tables k =
    option_map_or (λ name. option_and_then key_type (table_named name tables)) (referred k) (own_type k)

-- whether two types are one; where a type is none, as of a column that refers to no table that is there, they aren't
abbrev pub same_type : Option BaseKind → Option BaseKind → Bool
same_type (Some base.Int) (Some base.Int) = true
same_type (Some base.Text) (Some base.Text) = true
same_type b c = false

-- whether a value is of a type; a null is of none
abbrev pub has_type : Value → BaseKind → Bool
has_type (value.Int z) base.Int = true
has_type (value.Text text) base.Text = true
has_type v b = false

-- whether a value is of a column's type, or a null where nulls can stand
abbrev pub is_typed : Database → Value → ColKind → Bool
is_typed tables value.Null k = takes_null k
is_typed tables v k = option_map_or (has_type v) (type_of tables k) false

-- ---- the rows that values name

-- A reference: the name of a table, and the key of a row of it.
abbrev pub Reference : Type 0
Reference = List ℕ × Value

-- what a value names in a column: a null nothing, any other value a row if the column refers to a table
abbrev pub reference_of : Column → Value → Option Reference
reference_of column value.Null = None
reference_of column v = option_map (λ name. (name, v)) (referred column.kind)

-- the references of a row
abbrev pub references : List Column → Row → List Reference
references columns row = filter_map (λ c. reference_of c.0 c.1) (zip columns row)

-- the references of all rows of a table
abbrev pub table_references : Table → List Reference
table_references table = flat_map (references table.columns) table.rows

-- whether the table has a row with the key
abbrev pub is_held : Database → Reference → Bool
is_held tables reference =
    option_map_or (λ table. has_key_of (reference.1 ∷ []) table.rows) (table_named reference.0 tables) false

-- whether a reference names the row of the table of that name
abbrev pub is_to : List ℕ → Row → Reference → Bool
is_to name row reference = bytes_eq name reference.0 && is_eq (key_cmp row (reference.1 ∷ []))

-- whether a row of some table refers to the row of the table of that name
abbrev pub is_referenced : Database → List ℕ → Row → Bool
is_referenced tables name row = list_any (is_to name row) (flat_map table_references tables)

-- whether a column refers to one of these tables, if it refers to a table at all
abbrev pub refers_into : Database → Column → Bool
refers_into tables column = option_map_or (λ name. is_some (table_named name tables)) (referred column.kind) true

-- whether a column refers to the table of that name
abbrev pub refers_to : List ℕ → Column → Bool
refers_to name column = option_map_or (bytes_eq name) (referred column.kind) false

-- whether a column of some table does
abbrev pub is_table_referenced : Database → List ℕ → Bool
is_table_referenced tables name = list_any (λ t. list_any (refers_to name) t.columns) tables

-- ---- indexes

-- the kinds are one
abbrev pub is_kind : IndexKind → IndexKind → Bool
is_kind index.Tree index.Tree = true
is_kind index.Hash index.Hash = true
is_kind k l = false

-- the declarations are one
abbrev pub is_index : ColumnNumber → IndexKind → ℕ × IndexKind → Bool
is_index column k i = (i.0 == column.0) && is_kind k i.1

-- the indexes that a table has: the tree on its key, and those that are declared
abbrev pub all_indexes : Table → List (ℕ × IndexKind)
all_indexes table = (0, index.Tree) ∷ table.indexes

-- ---- sound databases

-- An integer column holds integers of 64 bits, a text column texts of at most 1,024 bytes. A reference column holds keys of
-- the table that it refers to, and nulls where they can stand.
abbrev pub CanHold : Database → ColKind → Value → Type 0
CanHold tables k value.Null = IsTrue (takes_null k)
CanHold tables kind.Int (value.Int z) = FitsSigned w64 z
CanHold tables kind.Text (value.Text text) = length text ≤ 1024
CanHold tables (kind.Ref name) v = IsTrue (is_held tables (name, v))
CanHold tables (kind.RefOrNull name) v = IsTrue (is_held tables (name, v))
CanHold tables k v = ⊥

-- a row has one value for each column, which the column can hold
abbrev pub IsRowOf : Database → List Column → Row → Type 0
IsRowOf tables [] [] = Unit {0}
IsRowOf tables [] (v ∷ row) = ⊥
IsRowOf tables (column ∷ columns) [] = ⊥
IsRowOf tables (column ∷ columns) (v ∷ row) = CanHold tables column.kind v × IsRowOf tables columns row

-- whether an index is a tree on the key, which every table has without a declaration
abbrev pub IsKeyTree : ℕ × IndexKind → Type 0
IsKeyTree i = (i.0 ≡ 0) × (i.1 ≡ index.Tree)

-- Its name and those of its columns are names. It has 1 to 16 columns, which differ in their names, and the first refers to
-- no table. Each declared index is on a column, no two are one, and none is the key's own tree. Its rows rise by their keys,
-- and are no more than the limit.
pub record IsSoundTable (limits : Limits) (table : Table) : Type 0 where
  pub named : IsName table.name
  pub columns_named : All (λ c. IsName c.name) table.columns
  pub columns_apart : AllPairs (λ c d. c.name ≢ d.name) table.columns
  pub few_columns : length table.columns ≤ 16
  pub keyed : IsSome (key_type table)
  pub indexes_on_columns : All (λ i. i.0 < length table.columns) table.indexes
  pub indexes_apart : AllPairs (λ i j. i ≢ j) table.indexes
  pub no_key_tree : All (λ i. ¬ (IsKeyTree i)) table.indexes
  pub rows_rise : AreRising table.rows
  pub few_rows : length table.rows ≤ limits.rows

abbrev pub RefersInto : Database → Column → Type 0
RefersInto tables column = IsTrue (refers_into tables column)

-- behind these tables each refers to tables before it
abbrev pub ReferBack : Database → Database → Type 0
ReferBack before [] = Unit {0}
ReferBack before (table ∷ after) = All (RefersInto before) table.columns × ReferBack (before ++ table ∷ []) after

-- Each table is sound, refers to tables before it, and has rows that its columns can hold. They differ in their names, and
-- there are at most 64.
pub record IsSound (limits : Limits) (tables : Database) : Type 0 where
  pub each : All (IsSoundTable limits) tables
  pub rows_fit : All (λ t. All (IsRowOf tables t.columns) t.rows) tables
  pub refer_back : ReferBack [] tables
  pub apart : AllPairs (λ t u. t.name ≢ u.name) tables
  pub few : length tables ≤ 64
