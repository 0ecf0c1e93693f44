-- What a command names: a table, and columns of it.
use Rattle.std.specs.Prelude.{◌≡◌, ℕ, List, [], ◌∷◌, Some, None, map, slice_get}
use Rattle.std.specs.List.{enumerate_from, flat_map}
use Rattle.std.specs.Option.{option_copied}
use Rattle.plain_tables.specs.Tables.{Table}
use Rattle.plain_tables.specs.Databases.{Database, table_named}
use Rattle.plain_tables.specs.Queries.{JoinedColumn, column_number}
use Rattle.plain_tables.specs.Resolving.{number_of}
use Rattle.plain_tables.specs.declared.numbers.ColumnNumber.{ColumnNumber}
use Rattle.plain_tables.specs.declared.numbers.Place.{Place}
use Rattle.plain_tables.specs.declared.numbers.TableNumber.{TableNumber}
use Rattle.plain_tables.specs.declared.schema.Column.{Column}
use Rattle.plain_tables.specs.declared.condition.ColName.{ColName}
use Rattle.plain_tables.specs.declared.resolved.Shown.{Shown}
use Rattle.plain_tables.specs.declared.resolved.Shown.TheVariants as shown
use Rattle.mm_resolver.specs.declared.named_table.NamedTable.{NamedTable}
use Rattle.mm_resolver.specs.declared.names.Name.{Name}
use Rattle.mm_resolver.specs.declared.names.NamedColumn.{NamedColumn}

-- the number of a table
abbrev pub table_number : ℕ → TableNumber
table_number n = record { 0 = n }

-- a place in the table that is joined as the one of this number, and one in the only table
abbrev pub place_in : ℕ → ColumnNumber → Place
place_in source column = record { source = source; column = column }

abbrev pub own_place : ColumnNumber → Place
own_place column = place_in 0 column

-- a column of the table of this name, where its place is not asked for
abbrev pub in_table : List ℕ → Column → JoinedColumn
in_table name column = record { table = name; place = own_place (column_number 0); column = column }

-- the columns of a table, which is joined as the one of this number
abbrev pub source_columns : ℕ × NamedTable → List JoinedColumn
source_columns s =
    map (λ c. record { table = s.1.name.now; place = place_in s.0 (column_number c.0); column = c.1 }) (enumerate_from 0 s.1.columns.now)

-- the columns that can be named in a command on tables
abbrev pub columns_of_all : List NamedTable → List JoinedColumn
columns_of_all tables = flat_map source_columns (enumerate_from 0 tables)

-- the columns that can be named in a command on a table alone
abbrev pub columns_of : NamedTable → List JoinedColumn
columns_of table = columns_of_all (table ∷ [])

-- a column and its place, among joined columns and as it was found
abbrev pub placed : JoinedColumn → Place × Column
placed joined = (joined.place, joined.column)

abbrev pub as_found : NamedColumn → Place × Column
as_found named = (named.place, named.column.now)

-- the name that a command writes
abbrev pub written : Name → ColName
written name = record { table = option_copied name.table; column = name.column.now }

-- a column's name with no table's before it
abbrev pub bare : List ℕ → ColName
bare name = record { table = None; column = name }

-- The table of that name, as commands name it: its number, its name and its columns.
pub record IsNamedTableOf (tables : Database) (name : List ℕ) (named : NamedTable) : Type 0 where
  pub table : Table
  pub found : table_named name tables ≡ Some table
  pub number : number_of name tables ≡ named.table
  pub called : table.name ≡ named.name.now
  pub columns : table.columns ≡ named.columns.now
  pub numbered : slice_get tables named.table.0 ≡ Some table

-- the places of the columns that are shown by their names
abbrev pub shown_places : Shown → List Place
shown_places shown.All = []
shown_places (shown.Columns places) = places
