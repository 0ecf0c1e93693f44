-- Laws of resolved commands: that they keep databases sound, what they leave and show, and in which of them declared
-- indexes play no part.
use Rattle.std.specs.Prelude.{◌≡◌, ◌≢◌, ◌+◌, ◌==◌, ℕ, ◌<◌, ◌≤◌, List, [], ◌∷◌, ◌++◌, Bool, true, false, not, length, map, Ok, Option, Some, None, is_some, IsTrue, IsFalse, FitsSigned, slice_get}
use Rattle.std.specs.Int.{w64}
use Rattle.std.specs.List.{All, AllZip, Contains, list_any}
use Rattle.plain_tables.specs.Names.{IsName}
use Rattle.plain_tables.specs.Tables.{Table, Row, has_key_of}
use Rattle.plain_tables.specs.Databases.{Database, table_named}
use Rattle.plain_tables.specs.Queries.{value_at}
use Rattle.plain_tables.specs.Effects.{Effect, Changed, Rows, Refused, refused, repeats, new_table}
use Rattle.plain_tables.specs.References.{RefersInto, is_typed, is_table_referenced, is_index, IsKeyTree, IsSoundTable, IsSound}
use Rattle.plain_tables.specs.CsvReading.{Record}
use Rattle.plain_tables.specs.Resolving.{has_mistyped, resolved_of}
use Rattle.plain_tables.specs.Joining.{members_of}
use Rattle.plain_tables.specs.Doing.{goes_on, loaded, load, updated, picked, update, without, delete, joined_tables, shown_rows, headings, done}
use Rattle.plain_tables.specs.Spelling.{IsSpellable}
use Rattle.plain_tables.specs.declared.value.Value.{Value}
use Rattle.plain_tables.specs.declared.value.Value.TheVariants as value
use Rattle.plain_tables.specs.declared.refusal.Refusal.{Refusal}
use Rattle.plain_tables.specs.declared.refusal.Refusal.TheVariants.{KeyExists, NoReferencedRow, TableFull}
use Rattle.plain_tables.specs.declared.schema.Column.{Column}
use Rattle.plain_tables.specs.declared.schema.Schema.{Schema}
use Rattle.plain_tables.specs.declared.schema.IndexKind.{IndexKind}
use Rattle.plain_tables.specs.declared.command.Items.{Items}
use Rattle.plain_tables.specs.declared.command.Items.TheVariants as items
use Rattle.plain_tables.specs.declared.command.Limits.{Limits}
use Rattle.plain_tables.specs.declared.command.Command.{Command}
use Rattle.plain_tables.specs.declared.command.Command.TheVariants as command
use Rattle.plain_tables.specs.declared.numbers.ColumnNumber.{ColumnNumber}
use Rattle.plain_tables.specs.declared.numbers.TableNumber.{TableNumber}
use Rattle.plain_tables.specs.declared.resolved.Assignment.{Assignment}
use Rattle.plain_tables.specs.declared.numbers.Place.{Place}
use Rattle.plain_tables.specs.declared.resolved.Test.{Test}
use Rattle.plain_tables.specs.declared.resolved.Query.{Query}
use Rattle.plain_tables.specs.declared.resolved.Joined.{Joined}
use Rattle.plain_tables.specs.declared.resolved.Shown.{Shown}
use Rattle.plain_tables.specs.declared.resolved.Shown.TheVariants as shown
use Rattle.plain_tables.specs.declared.resolved.Resolved.{Resolved}
use Rattle.plain_tables.specs.declared.resolved.Resolved.TheVariants as resolved

-- ---- commands as a line can give them

-- an integer of 64 bits, or no integer
abbrev pub HasWidth : Value → Type 0
HasWidth (value.Int z) = FitsSigned w64 z
HasWidth v = Unit {0}

-- items that are named are one or more
abbrev pub NamesItems : Items → Type 0
NamesItems items.All = Unit {0}
NamesItems (items.Named names) = 0 < length names

-- What no check asks of a command, since every line that spells one sees to it: a table that is declared and its columns
-- have names, it has a column, a select that names items names one, and integers that are to be stored have 64 bits.
abbrev pub IsGiven : Command → Type 0
IsGiven (command.Table name schema) = IsName name × (0 < length schema.columns) × All (λ c. IsName c.name) schema.columns
IsGiven (command.Insert name row) = All HasWidth row
IsGiven (command.Update name settings conditions) = All (λ s. HasWidth s.value) settings
IsGiven (command.Select distinct its name joins conditions) = NamesItems its
IsGiven c = Unit {0}

-- every command that can be spelled is such a one
abbrev pub SpellableAreGiven : Type 0
SpellableAreGiven = (c : Command) → IsSpellable c → IsGiven c

-- ---- resolved commands of a database

-- the table of that number is there, and of it this holds
abbrev pub OfTable : TableNumber → Database → (Table → Type 0) → Type 0
OfTable n tables P = (table : Table) × (slice_get tables n.0 ≡ Some table) × P table

-- an integer of 64 bits, a text of at most 1,024 bytes, or null
abbrev pub IsStorable : Value → Type 0
IsStorable value.Null = Unit {0}
IsStorable (value.Int z) = FitsSigned w64 z
IsStorable (value.Text text) = length text ≤ 1024

-- the table has a column of that number, and the value is of its type
abbrev pub IsOfColumn : Database → Table → ColumnNumber → Value → Type 0
IsOfColumn tables table n v = (c : Column) × (slice_get table.columns n.0 ≡ Some c) × IsTrue (is_typed tables v c.kind)

-- A table that can be declared: it would be sound, refers to tables that are there, and is new among fewer than 64.
pub record IsDeclarable (limits : Limits) (tables : Database) (name : List ℕ) (schema : Schema) : Type 0 where
  pub sound : IsSoundTable limits (new_table name schema)
  pub refers_back : All (RefersInto tables) schema.columns
  pub is_new : IsFalse (is_some (table_named name tables))
  pub has_room : length tables < 64

-- An index that can be declared: its column is there, it isn't declared, and it isn't the key's own tree.
pub record IsIndexable (column : ColumnNumber) (k : IndexKind) (table : Table) : Type 0 where
  pub on_column : column.0 < length table.columns
  pub undeclared : IsFalse (list_any (is_index column k) table.indexes)
  pub no_key_tree : ¬ (IsKeyTree (column.0, k))

-- a row that can be inserted, if its key is new and its references are held: one value for each column, of its type
pub record IsInsertable (tables : Database) (row : Row) (table : Table) : Type 0 where
  pub counted : length row ≡ length table.columns
  pub typed : IsFalse (has_mistyped tables table.columns row)
  pub storable : All IsStorable row

-- a value that can be assigned, if its reference is held: behind the key, of the column's type
pub record IsAssignable (tables : Database) (table : Table) (a : Assignment) : Type 0 where
  pub behind_key : 0 < a.column.0
  pub of_column : IsOfColumn tables table a.column a.value
  pub storable : IsStorable a.value

-- whether an assignment is to a column
abbrev pub is_to_column : ℕ → Assignment → Bool
is_to_column column a = a.column.0 == column

-- whether a column is assigned twice
abbrev pub assigns_twice : List Assignment → Bool
assigns_twice assignments = repeats (λ a b. is_to_column a.column.0 b) assignments

-- assignments that can be made, if their references are held: no two of them to one column
pub record AreAssignable (tables : Database) (assignments : List Assignment) (table : Table) : Type 0 where
  pub each : All (IsAssignable tables table) assignments
  pub apart : IsFalse (assigns_twice assignments)

-- the columns of tests are there, and the values are of their types
abbrev pub AreTests : Database → Table → List Test → Type 0
AreTests tables table tests = All (λ t. IsOfColumn tables table t.column t.value) tests

-- a place is there among joined tables
abbrev pub HasPlace : List Table → Place → Type 0
HasPlace joined place = (table : Table) × (slice_get joined place.source ≡ Some table) × (place.column.0 < length table.columns)

-- the columns that are shown are there, and at least one is
abbrev pub IsShown : List Table → Shown → Type 0
IsShown joined shown.All = Unit {0}
IsShown joined (shown.Columns places) = (0 < length places) × All (HasPlace joined) places

-- Joins behind these tables: the outer column of each is there among the tables before it and the inner in its own, and the
-- columns of its tests are there.
abbrev pub AreJoins : Database → List Table → List Joined → Type 0
AreJoins tables before [] = Unit {0}
AreJoins tables before (join ∷ joins) =
    HasPlace before join.outer
    × OfTable join.source.table tables (λ table. AreTests tables table join.source.tests × (join.inner.0 < length table.columns) × AreJoins tables (before ++ table ∷ []) joins)

-- A resolved command of these tables: what it names by numbers is there, its values can stand there, and only the checks
-- that look at rows can refuse it.
abbrev pub IsMeant : Limits → Database → Resolved → Type 0
IsMeant limits tables (resolved.Table name schema) = IsDeclarable limits tables name schema
IsMeant limits tables (resolved.DropTable n) = OfTable n tables (λ table. IsFalse (is_table_referenced tables table.name))
IsMeant limits tables (resolved.Index n column k) = OfTable n tables (IsIndexable column k)
IsMeant limits tables (resolved.DropIndex n column k) = OfTable n tables (λ table. Unit {0})
IsMeant limits tables (resolved.Insert n row) = OfTable n tables (IsInsertable tables row)
IsMeant limits tables (resolved.Update n assignments tests) =
    OfTable n tables (λ table. AreAssignable tables assignments table × AreTests tables table tests)
IsMeant limits tables (resolved.Delete n tests) = OfTable n tables (λ table. AreTests tables table tests)
IsMeant limits tables (resolved.Select query) =
    OfTable query.source.table tables (λ table. AreTests tables table query.source.tests × AreJoins tables (table ∷ []) query.joins)
    × IsShown (joined_tables tables query.source query.joins) query.shown
IsMeant limits tables (resolved.Load n rows) = OfTable n tables (λ table. All (λ row. IsInsertable tables row table) rows)
IsMeant limits tables (resolved.Dump n) = OfTable n tables (λ table. Unit {0})
IsMeant limits tables resolved.Tables = Unit {0}

-- ---- databases stay sound

-- a command is resolved to one of these tables
abbrev pub ResolvedAreMeant : Type 0
ResolvedAreMeant =
    (records : List Record) (limits : Limits) (tables : Database) (c : Command) (r : Resolved)
    → IsGiven c → resolved_of records tables c ≡ Ok r → IsMeant limits tables r

-- what a resolved command of a sound database leaves is sound
abbrev pub DoneKeepsSound : Type 0
DoneKeepsSound =
    (limits : Limits) (tables : Database) (r : Resolved) → IsSound limits tables → IsMeant limits tables r
    → IsSound limits (done limits tables r).database

-- so is what an update leaves, whichever rows are picked
abbrev pub UpdateKeepsSound : Type 0
UpdateKeepsSound =
    (limits : Limits) (tables : Database) (n : TableNumber) (assignments : List Assignment) (picks : Row → Bool)
    → IsSound limits tables → OfTable n tables (AreAssignable tables assignments)
    → IsSound limits (update tables n assignments picks).database

-- and what a delete leaves
abbrev pub DeleteKeepsSound : Type 0
DeleteKeepsSound =
    (limits : Limits) (tables : Database) (n : TableNumber) (picks : Row → Bool) → IsSound limits tables
    → IsSound limits (delete tables n picks).database

-- a command that a line can give, and that is resolved, leaves a sound database sound
abbrev pub CommandsKeepSound : Type 0
CommandsKeepSound =
    (records : List Record) (limits : Limits) (tables : Database) (c : Command) (r : Resolved)
    → IsGiven c → resolved_of records tables c ≡ Ok r → IsSound limits tables → IsSound limits (done limits tables r).database

-- ---- declared indexes

-- the table with no index declared
abbrev pub unindexed : Table → Table
unindexed table = record table { indexes = [] }

-- a table without its rows and declared indexes: what a command is resolved by
abbrev pub emptied : Table → Table
emptied table = record table { indexes = []; rows = [] }

-- whether a command declares an index or drops one
abbrev pub is_on_indexes : Command → Bool
is_on_indexes (command.Index name column k) = true
is_on_indexes (command.DropIndex name column k) = true
is_on_indexes c = false

-- whether a resolved command shows the declared indexes
abbrev pub shows_indexes : Resolved → Bool
shows_indexes resolved.Tables = true
shows_indexes r = false

-- Of databases that are alike but for the declared indexes each command is resolved alike, but for those on indexes.
abbrev pub ResolvedAlike : Type 0
ResolvedAlike =
    (records : List Record) (tables others : Database) (c : Command) → IsFalse (is_on_indexes c) → map unindexed tables ≡ map unindexed others
    → resolved_of records tables c ≡ resolved_of records others c

-- two effects that have one answer, and leave databases that are alike but for the declared indexes
pub record AreDoneAlike (e f : Effect) : Type 0 where
  pub answered : e.outcome ≡ f.outcome
  pub left : map unindexed e.database ≡ map unindexed f.database

-- Each resolved command that doesn't show the indexes is answered alike, and they stay alike.
abbrev pub DoneAlike : Type 0
DoneAlike =
    (limits : Limits) (tables others : Database) (r : Resolved) → IsFalse (shows_indexes r) → map unindexed tables ≡ map unindexed others
    → AreDoneAlike (done limits tables r) (done limits others r)

-- ---- the tables that a command leaves

-- the table on whose rows a command is
abbrev pub rows_table : Resolved → Option TableNumber
rows_table (resolved.Insert n row) = Some n
rows_table (resolved.Update n assignments tests) = Some n
rows_table (resolved.Delete n tests) = Some n
rows_table (resolved.Select query) = Some query.source.table
rows_table (resolved.Load n rows) = Some n
rows_table (resolved.Dump n) = Some n
rows_table r = None

-- the table with no rows
abbrev pub rowless : Table → Table
rowless table = record table { rows = [] }

-- The tables are as before but for rows, and those of other numbers as before with their rows.
pub record ChangesRowsOf (n : TableNumber) (old new : Database) : Type 0 where
  pub all_but_rows : map rowless new ≡ map rowless old
  pub others : (k : ℕ) → k ≢ n.0 → slice_get new k ≡ slice_get old k

abbrev pub OwnRowsChange : Type 0
OwnRowsChange =
    (limits : Limits) (tables : Database) (r : Resolved) (n : TableNumber) → rows_table r ≡ Some n
    → ChangesRowsOf n tables (done limits tables r).database

-- ---- refusals

-- what is refused leaves the database as it was
abbrev pub KeepsIfRefused : Database → Effect → Type 0
KeepsIfRefused tables e = (why : Refusal) → e.outcome ≡ Refused why → e.database ≡ tables

abbrev pub RefusedKeeps : Type 0
RefusedKeeps = (limits : Limits) (tables : Database) (r : Resolved) → KeepsIfRefused tables (done limits tables r)

abbrev pub RefusedUpdateKeeps : Type 0
RefusedUpdateKeeps =
    (tables : Database) (n : TableNumber) (assignments : List Assignment) (picks : Row → Bool)
    → KeepsIfRefused tables (update tables n assignments picks)

abbrev pub RefusedDeleteKeeps : Type 0
RefusedDeleteKeeps = (tables : Database) (n : TableNumber) (picks : Row → Bool) → KeepsIfRefused tables (delete tables n picks)

-- ---- update and delete

-- after an update there are as many rows, and each that isn't picked is in its place as it was
abbrev pub UpdateKeepsUnpicked : Type 0
UpdateKeepsUnpicked =
    (assignments : List Assignment) (picks : Row → Bool) (table : Table)
    → AllZip (λ old new. IsFalse (picks old) → new ≡ old) table.rows (updated assignments picks table).rows

-- A row to which values were assigned has each in its column, elsewhere its old values, and as many as before.
pub record HasAssigned (assignments : List Assignment) (old new : Row) : Type 0 where
  pub set : (a : Assignment) → Contains assignments a → a.column.0 < length old → value_at new a.column.0 ≡ a.value
  pub kept : (column : ℕ) → IsFalse (list_any (is_to_column column) assignments) → value_at new column ≡ value_at old column
  pub as_long : length new ≡ length old

-- after an update that assigns to no column twice each row that is picked has the values, in its place
abbrev pub UpdateSetsPicked : Type 0
UpdateSetsPicked =
    (assignments : List Assignment) (picks : Row → Bool) (table : Table) → IsFalse (assigns_twice assignments)
    → AllZip (λ old new. IsTrue (picks old) → HasAssigned assignments old new) table.rows (updated assignments picks table).rows

-- After a delete no row is picked, and the rows that weren't are there as before, in their order. They and the rows that
-- were picked are as many as the table had.
pub record DeleteLeaves (picks : Row → Bool) (table : Table) : Type 0 where
  pub none_picked : picked picks (without picks table) ≡ []
  pub others : picked (λ row. not (picks row)) (without picks table) ≡ picked (λ row. not (picks row)) table
  pub counted : length (without picks table).rows + length (picked picks table) ≡ length table.rows

abbrev pub DeletesThePicked : Type 0
DeletesThePicked = (picks : Row → Bool) (table : Table) → DeleteLeaves picks table

-- ---- load

-- Rows and more behind them are loaded as the rows first and then the others, by numbers that go on from theirs.
abbrev pub LoadGoesOn : Type 0
LoadGoesOn =
    (limits : Limits) (tables : Database) (n : TableNumber) (k : ℕ) (rows more : List Row)
    → loaded limits tables n k (rows ++ more)
    ≡ goes_on (λ next. loaded limits next n (k + length rows) more) (loaded limits tables n k rows)

-- what a row can be refused by that is loaded as this record
abbrev pub record_refusals : ℕ → List Refusal
record_refusals k = KeyExists (Some k) ∷ NoReferencedRow (Some k) ∷ TableFull (Some k) ∷ []

-- All rows are loaded, or none is: then one of them is refused, told by the number of its record, and the tables are as before.
pub data IsLoad (tables : Database) (rows : List Row) : Effect → Type 0 where
  all_rows : (new : Database) → IsLoad tables rows (record { database = new; outcome = Changed (length rows) })
  no_row : (k : ℕ) (why : Refusal) → 1 ≤ k → k ≤ length rows → Contains (record_refusals k) why
      → IsLoad tables rows (refused tables why)

abbrev pub LoadsAreTold : Type 0
LoadsAreTold =
    (limits : Limits) (tables : Database) (n : TableNumber) (rows : List Row) → OfTable n tables (λ table. Unit {0})
    → IsLoad tables rows (load limits tables n rows)

-- What was loaded into a sound database can be taken back: a delete of the rows with keys of those takes out as many as were
-- loaded, and leaves the tables as they were.
abbrev pub LoadCanBeTakenBack : Type 0
LoadCanBeTakenBack =
    (limits : Limits) (tables new : Database) (n : TableNumber) (k : ℕ) (rows : List Row)
    → IsSound limits tables → OfTable n tables (λ table. Unit {0}) → loaded limits tables n k rows ≡ Ok new
    → delete new n (λ row. has_key_of row rows) ≡ record { database = tables; outcome = Changed (length rows) }

-- ---- select

-- a select of all columns with no tests shows the rows of the table
abbrev pub SelectsRows : Type 0
SelectsRows =
    (limits : Limits) (tables : Database) (n : TableNumber) (table : Table) → slice_get tables n.0 ≡ Some table
    → (done limits tables (resolved.Select (record { distinct = false; shown = shown.All; source = record { table = n; tests = [] }; joins = [] }))).outcome ≡ Rows (headings (table ∷ []) shown.All) table.rows

-- each row that is shown has as many values as there are headings
abbrev pub ShownFitHeadings : Type 0
ShownFitHeadings =
    (limits : Limits) (tables : Database) (query : Query) → IsSound limits tables → IsMeant limits tables (resolved.Select query)
    → All (λ row. length row ≡ length (headings (joined_tables tables query.source query.joins) query.shown))
    (shown_rows query.distinct query.shown (members_of tables query.source query.joins))
