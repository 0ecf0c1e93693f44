-- Resolving: what a command means with numbers in the place of names, and the checks that need no row.
use Rattle.std.specs.Prelude.{ℕ, List, [], ◌∷◌, ◌++◌, Bool, true, false, ◌||◌, ◌&&◌, not, ◌==◌, nat_lt, nat_le, length, map, if◌then◌else◌, is_some, is_none, Option, Result, Ok, Err, None, zip, take}
use Rattle.std.specs.List.{list_any, position_or_len, filter, filter_map}
use Rattle.std.specs.Option.{option_map, option_map_or}
use Rattle.std.specs.Str.{bytes_eq}
use Rattle.plain_tables.specs.Values.{is_null}
use Rattle.plain_tables.specs.Tables.{Table, Row}
use Rattle.plain_tables.specs.Databases.{Database, is_named, table_named}
use Rattle.plain_tables.specs.Queries.{JoinedColumn, joined_columns, column_meant, place_meant, places_meant, same_place, sides_meant, named_items}
use Rattle.plain_tables.specs.Effects.{Check, repeats, column_names, misses, is_long, setting_name, condition_names}
use Rattle.plain_tables.specs.CsvReading.{Record, BlockColumn, Reading, Rows, BadHeader, BadRecord, all_of, records_reading}
use Rattle.plain_tables.specs.declared.refusal.Refusal.TheVariants as refusal
use Rattle.plain_tables.specs.References.{referred, takes_null, type_of, same_type, is_typed, refers_into, is_table_referenced, is_index, all_indexes}
use Rattle.plain_tables.specs.declared.value.Value.{Value}
use Rattle.plain_tables.specs.declared.condition.Op.{Op}
use Rattle.plain_tables.specs.declared.condition.Op.TheVariants as op
use Rattle.plain_tables.specs.declared.condition.Cond.{Cond}
use Rattle.plain_tables.specs.declared.condition.ColName.{ColName}
use Rattle.plain_tables.specs.declared.refusal.Refusal.{Refusal}
use Rattle.plain_tables.specs.declared.refusal.Refusal.TheVariants.{NoSuchTable, TableExists, NoSuchColumn, ColumnNamedTwice, WrongType, KeyCannotBeSet, TableNamedTwice, TooMany, NoSuchIndex, IndexExists, TableIsReferenced, WrongNumberOfValues, TextTooLong}
use Rattle.plain_tables.specs.declared.schema.Schema.{Schema}
use Rattle.plain_tables.specs.declared.schema.Column.{Column}
use Rattle.plain_tables.specs.declared.schema.IndexKind.{IndexKind}
use Rattle.plain_tables.specs.declared.command.Items.{Items}
use Rattle.plain_tables.specs.declared.command.Items.TheVariants as items
use Rattle.plain_tables.specs.declared.command.Join.{Join}
use Rattle.plain_tables.specs.declared.command.Setting.{Setting}
use Rattle.plain_tables.specs.declared.command.Command.{Command}
use Rattle.plain_tables.specs.declared.command.Command.TheVariants as command
use Rattle.plain_tables.specs.declared.numbers.ColumnNumber.{ColumnNumber}
use Rattle.plain_tables.specs.declared.numbers.TableNumber.{TableNumber}
use Rattle.plain_tables.specs.declared.resolved.Assignment.{Assignment}
use Rattle.plain_tables.specs.declared.resolved.Test.{Test}
use Rattle.plain_tables.specs.declared.resolved.Source.{Source}
use Rattle.plain_tables.specs.declared.resolved.Joined.{Joined}
use Rattle.plain_tables.specs.declared.resolved.Shown.{Shown}
use Rattle.plain_tables.specs.declared.resolved.Shown.TheVariants as shown
use Rattle.plain_tables.specs.declared.resolved.Resolved.{Resolved}
use Rattle.plain_tables.specs.declared.resolved.Resolved.TheVariants as resolved

-- Checks are made in their order. The first that refuses is the answer; if none does, this is what the command means.
abbrev pub meaning : List Check → Resolved → Result Resolved Refusal
meaning [] r = Ok r
meaning (check ∷ checks) r = if check.refuses then Err check.refusal else meaning checks r

-- the number of the table of that name
abbrev pub number_of : List ℕ → Database → TableNumber
number_of name tables = record { 0 = position_or_len (is_named name) tables }

-- a command on the table of that name, by its number and the table, refused where there is none
abbrev pub on_numbered : List ℕ → Database → (TableNumber → Table → Result Resolved Refusal) → Result Resolved Refusal
on_numbered name tables means = option_map_or (means (number_of name tables)) (table_named name tables) (Err NoSuchTable)

-- the columns that a command on one table can name
abbrev pub own_columns : Table → List JoinedColumn
own_columns table = joined_columns (table ∷ [])

-- a command on the column of that name, by its number, refused where no column has it
abbrev pub on_column : List ℕ → Table → (ColumnNumber → Result Resolved Refusal) → Result Resolved Refusal
on_column name table means =
    option_map_or (λ place. means place.column) (place_meant (own_columns table) (record { table = None; column = name })) (Err NoSuchColumn)

-- ---- conditions, settings and items by numbers

-- The tests that conditions are, and the assignments that settings are. A name that means no column is left out.
abbrev pub tests_of : List JoinedColumn → List Cond → List Test
tests_of columns conditions =
    filter_map (λ c. option_map (λ place. record { column = place.column; op = c.op; value = c.value }) (place_meant columns c.column)) conditions

abbrev pub assignments_of : List JoinedColumn → List Setting → List Assignment
assignments_of columns settings =
    filter_map (λ s. option_map (λ place. record { column = place.column; value = s.value }) (place_meant columns (setting_name s))) settings

-- the columns that items show
abbrev pub shown_of : List JoinedColumn → Items → Shown
shown_of columns items.All = shown.All
shown_of columns (items.Named names) = shown.Columns (places_meant columns names)

-- ---- what checks ask of types

-- whether an operator asks for an order, in which a null has no place
abbrev pub asks_order : Op → Bool
asks_order op.Eq = false
asks_order op.Ne = false
asks_order o = true

-- whether a value is none for the column that the name means; it isn't if the name means none
abbrev pub mistypes : Database → List JoinedColumn → ColName → Value → Bool
mistypes tables columns name v =
    option_map_or (λ joined. not (is_typed tables v joined.column.kind)) (column_meant columns name) false

-- whether a condition has a value that is none for its column, or asks how a null is ordered
abbrev pub is_mistyped : Database → List JoinedColumn → Cond → Bool
is_mistyped tables columns c = mistypes tables columns c.column c.value || (is_null c.value && asks_order c.op)

-- whether a row has a value that is none for its column
abbrev pub has_mistyped : Database → List Column → Row → Bool
has_mistyped tables columns row = list_any (λ c. not (is_typed tables c.1 c.0.kind)) (zip columns row)

-- ---- table

-- Each table referred to is there, the name is new, no column is named twice, the first column refers to no table, and there
-- are at most 16 columns, and fewer than 64 tables so far.
abbrev pub table_checks : Database → List ℕ → Schema → List Check
table_checks tables name schema =
    record { refuses = list_any (λ c. not (refers_into tables c)) schema.columns; refusal = NoSuchTable }
    ∷ record { refuses = is_some (table_named name tables); refusal = TableExists }
    ∷ record { refuses = repeats bytes_eq (column_names schema.columns); refusal = ColumnNamedTwice }
    ∷ record { refuses = list_any (λ c. is_some (referred c.kind)) (take 1 schema.columns); refusal = WrongType }
    ∷ record { refuses = nat_lt 16 (length schema.columns) || nat_le 64 (length tables); refusal = TooMany }
    ∷ []

-- ---- drop table

-- no column refers to the table
abbrev pub drop_checks : Database → Table → List Check
drop_checks tables table = record { refuses = is_table_referenced tables table.name; refusal = TableIsReferenced } ∷ []

-- ---- index, drop index

-- the table has no such index, the tree on its key included
abbrev pub index_checks : Table → ColumnNumber → IndexKind → List Check
index_checks table column k = record { refuses = list_any (is_index column k) (all_indexes table); refusal = IndexExists } ∷ []

-- such an index is declared, which the tree on the key isn't
abbrev pub drop_index_checks : Table → ColumnNumber → IndexKind → List Check
drop_index_checks table column k = record { refuses = not (list_any (is_index column k) table.indexes); refusal = NoSuchIndex } ∷ []

-- ---- insert, update, delete

-- one value for each column, of its type, and no text too long
abbrev pub insert_checks : Database → Table → Row → List Check
insert_checks tables table row =
    record { refuses = not (length row == length table.columns); refusal = WrongNumberOfValues }
    ∷ record { refuses = has_mistyped tables table.columns row; refusal = WrongType }
    ∷ record { refuses = list_any is_long row; refusal = TextTooLong }
    ∷ []

-- Each name means a column, none is set twice, each value is of its column's type, no text to be set is too long, the key
-- isn't set, and there are at most 8 conditions.
abbrev pub update_checks : Database → Table → List Setting → List Cond → List Check
update_checks tables table settings conditions =
    let columns = own_columns table in
    record { refuses = misses columns (map setting_name settings ++ condition_names conditions); refusal = NoSuchColumn }
    ∷ record { refuses = repeats bytes_eq (map (λ s. s.column) settings); refusal = ColumnNamedTwice }
    ∷ record { refuses = list_any (λ s. mistypes tables columns (setting_name s) s.value) settings || list_any (is_mistyped tables columns) conditions; refusal = WrongType }
    ∷ record { refuses = list_any (λ s. is_long s.value) settings; refusal = TextTooLong }
    ∷ record { refuses = list_any (λ place. place.column.0 == 0) (places_meant columns (map setting_name settings)); refusal = KeyCannotBeSet }
    ∷ record { refuses = nat_lt 8 (length conditions); refusal = TooMany }
    ∷ []

-- each name means a column, each value is of its column's type, and there are at most 8 conditions
abbrev pub delete_checks : Database → Table → List Cond → List Check
delete_checks tables table conditions =
    let columns = own_columns table in
    record { refuses = misses columns (condition_names conditions); refusal = NoSuchColumn }
    ∷ record { refuses = list_any (is_mistyped tables columns) conditions; refusal = WrongType }
    ∷ record { refuses = nat_lt 8 (length conditions); refusal = TooMany }
    ∷ []

-- ---- select

-- the names of a list, each once
abbrev pub once : List (List ℕ) → List (List ℕ)
once [] = []
once (name ∷ names) = name ∷ filter (λ other. not (bytes_eq name other)) (once names)

-- the tables that a select names
abbrev pub select_names : List ℕ → List Join → List (List ℕ)
select_names name joins = name ∷ map (λ join. join.table) joins

-- the columns of the tables of these names; a table that is named twice counts once
abbrev pub columns_of : Database → List (List ℕ) → List JoinedColumn
columns_of tables names = joined_columns (filter_map (λ name. table_named name tables) (once names))

-- joins, each with the names of the tables before it
abbrev pub behind : List (List ℕ) → List Join → List (List (List ℕ) × Join)
behind names [] = []
behind names (join ∷ joins) = (names, join) ∷ behind (names ++ join.table ∷ []) joins

-- the two columns that a join behind tables of these names makes equal
abbrev pub join_columns : Database → List (List ℕ) × Join → Option (JoinedColumn × JoinedColumn)
join_columns tables join = sides_meant (columns_of tables join.0) (columns_of tables (join.1.table ∷ [])) join.1

-- whether two columns are of different types
abbrev pub differ_in_type : Database → JoinedColumn × JoinedColumn → Bool
differ_in_type tables columns = not (same_type (type_of tables columns.0.column.kind) (type_of tables columns.1.column.kind))

-- Each table is there, each name means a column, and each join names one of its table and one of those before it; no column is
-- shown twice, no table named twice, each value is of its column's type, as are the columns of each join of one; and there
-- are at most 16 named items, 8 conditions and 3 joins.
abbrev pub select_checks : Database → Items → List ℕ → List Join → List Cond → List Check
select_checks tables its name joins conditions =
    let names = select_names name joins in
    let columns = columns_of tables names in
    let sides = map (join_columns tables) (behind (name ∷ []) joins) in
    record { refuses = list_any (λ n. not (is_some (table_named n tables))) names; refusal = NoSuchTable }
    ∷ record { refuses = misses columns (named_items its ++ condition_names conditions) || list_any is_none sides; refusal = NoSuchColumn }
    ∷ record { refuses = repeats same_place (places_meant columns (named_items its)); refusal = ColumnNamedTwice }
    ∷ record { refuses = repeats bytes_eq names; refusal = TableNamedTwice }
    ∷ record { refuses = list_any (is_mistyped tables columns) conditions || list_any (λ s. option_map_or (differ_in_type tables) s false) sides; refusal = WrongType }
    ∷ record { refuses = nat_lt 16 (length (named_items its)) || nat_lt 8 (length conditions) || nat_lt 3 (length joins); refusal = TooMany }
    ∷ []

-- whether a condition is on the table that is joined as the one of this number
abbrev pub is_on_source : List JoinedColumn → ℕ → Cond → Bool
is_on_source columns source c = option_map_or (λ place. place.source == source) (place_meant columns c.column) false

-- the rows of the table of that name, which is joined as the one of this number, that meet the conditions on it
abbrev pub source_of : Database → List JoinedColumn → List Cond → ℕ → List ℕ → Source
source_of tables columns conditions source name =
    record { table = number_of name tables; tests = tests_of columns (filter (is_on_source columns source) conditions) }

-- the joins by numbers; one that names no two columns is left out
abbrev pub joins_of : Database → List JoinedColumn → List Cond → List (List (List ℕ) × Join) → List Joined
joins_of tables columns conditions joins =
    filter_map (λ j. option_map (λ sides. record { source = source_of tables columns conditions (length j.0) j.1.table; outer = sides.0.place; inner = sides.1.place.column }) (join_columns tables j)) joins

-- a select by numbers
abbrev pub select_of : Database → Bool → Items → List ℕ → List Join → List Cond → Resolved
select_of tables distinct its name joins conditions =
    let columns = columns_of tables (select_names name joins) in
    resolved.Select (record {
      distinct = distinct;
      shown = shown_of columns its;
      source = source_of tables columns conditions 0 name;
      joins = joins_of tables columns conditions (behind (name ∷ []) joins);
    })

-- ---- load

-- What a column of a table is in a block, if it has a type. A reference column's values are the keys that it names.
abbrev pub block_column : Database → Column → Option BlockColumn
block_column tables column =
    option_map (λ k. record { name = column.name; kind = k; null = takes_null column.kind }) (type_of tables column.kind)

-- the columns of a block of a table; each has a type in a sound database
abbrev pub block_columns : Database → Table → Option (List BlockColumn)
block_columns tables table = all_of (map (block_column tables) table.columns)

-- what the records of a block are read as in a table
abbrev pub table_reading : Database → Table → List Record → Reading
table_reading tables table records = option_map_or (λ columns. records_reading columns records) (block_columns tables table) BadHeader

-- a load of what a block is read as into the table of a number
abbrev pub load_of : TableNumber → Reading → Result Resolved Refusal
load_of n (Rows rows) = Ok (resolved.Load n rows)
load_of n BadHeader = Err refusal.BadHeader
load_of n (BadRecord k) = Err (refusal.BadRecord k)

-- ---- all commands

-- What a command means of these tables, with the records of its block, or why it is refused before a row is looked at. A
-- command without a block has no records.
abbrev pub resolved_of : List Record → Database → Command → Result Resolved Refusal
resolved_of records tables (command.Table name schema) = meaning (table_checks tables name schema) (resolved.Table name schema)
resolved_of records tables (command.DropTable name) =
    on_numbered name tables (λ n table. meaning (drop_checks tables table) (resolved.DropTable n))
resolved_of records tables (command.Index name column k) =
    on_numbered name tables (λ n table. on_column column table (λ c. meaning (index_checks table c k) (resolved.Index n c k)))
resolved_of records tables (command.DropIndex name column k) =
    on_numbered name tables (λ n table. on_column column table (λ c. meaning (drop_index_checks table c k) (resolved.DropIndex n c k)))
resolved_of records tables (command.Insert name row) =
    on_numbered name tables (λ n table. meaning (insert_checks tables table row) (resolved.Insert n row))
resolved_of records tables (command.Update name settings conditions) =
    on_numbered name tables (λ n table. meaning (update_checks tables table settings conditions)
    (resolved.Update n (assignments_of (own_columns table) settings) (tests_of (own_columns table) conditions)))
resolved_of records tables (command.Delete name conditions) =
    on_numbered name tables (λ n table. meaning (delete_checks tables table conditions)
    (resolved.Delete n (tests_of (own_columns table) conditions)))
resolved_of records tables (command.Select distinct its name joins conditions) =
    meaning (select_checks tables its name joins conditions) (select_of tables distinct its name joins conditions)
resolved_of records tables (command.Load name bytes) = on_numbered name tables (λ n table. load_of n (table_reading tables table records))
resolved_of records tables (command.Dump name) = on_numbered name tables (λ n table. Ok (resolved.Dump n))
resolved_of records tables command.Tables = Ok resolved.Tables
