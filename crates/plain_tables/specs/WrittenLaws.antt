-- Laws of what is written. Each condition, and each join, is judged at the places that its names mean. Each value is set at the column
-- that its name means, and each item shows what its name means. They hold of any tables, sound or not.
use Rattle.std.specs.Prelude.{◌≡◌, ℕ, ◌<◌, List, [], ◌∷◌, Bool, false, ◌&&◌, length, map, Ok, Some, slice_get, ◌⊎◌}
use Rattle.std.specs.List.{All, filter, filter_map, list_all, enumerate_from}
use Rattle.std.specs.Option.{option_map_or, option_zip}
use Rattle.plain_tables.specs.Tables.{Table, Row}
use Rattle.plain_tables.specs.Databases.{Database, table_named}
use Rattle.plain_tables.specs.Queries.{JoinedColumn, joined_columns, place_meant, stands, side_name, named_items}
use Rattle.plain_tables.specs.Effects.{setting_name}
use Rattle.plain_tables.specs.CsvReading.{Record}
use Rattle.plain_tables.specs.Resolving.{own_columns, select_names, resolved_of}
use Rattle.plain_tables.specs.Joining.{Member, passes_all, value_of, are_equal, members_of}
use Rattle.plain_tables.specs.QueryLaws.{all_members}
use Rattle.plain_tables.specs.declared.condition.ColName.{ColName}
use Rattle.plain_tables.specs.declared.condition.Cond.{Cond}
use Rattle.plain_tables.specs.declared.command.Items.{Items}
use Rattle.plain_tables.specs.declared.command.Items.TheVariants as items
use Rattle.plain_tables.specs.declared.command.Join.{Join}
use Rattle.plain_tables.specs.declared.command.JoinSide.{JoinSide}
use Rattle.plain_tables.specs.declared.command.Setting.{Setting}
use Rattle.plain_tables.specs.declared.command.Command.TheVariants as command
use Rattle.plain_tables.specs.declared.numbers.Place.{Place}
use Rattle.plain_tables.specs.declared.numbers.TableNumber.{TableNumber}
use Rattle.plain_tables.specs.declared.resolved.Assignment.{Assignment}
use Rattle.plain_tables.specs.declared.resolved.Test.{Test}
use Rattle.plain_tables.specs.declared.resolved.Query.{Query}
use Rattle.plain_tables.specs.declared.resolved.Shown.TheVariants as shown
use Rattle.plain_tables.specs.declared.resolved.Resolved.{Resolved}
use Rattle.plain_tables.specs.declared.resolved.Resolved.TheVariants as resolved

-- ---- what is written

-- the tables of these names, in the order of the names
abbrev pub tables_named : Database → List (List ℕ) → List Table
tables_named tables names = filter_map (λ name. table_named name tables) names

-- Whether a member meets a condition: its value at the place that the name means stands so to the condition's. Where the name
-- means no place, as none in a command that is resolved does, no member meets it.
abbrev pub meets : List JoinedColumn → Member → Cond → Bool
meets columns member c = option_map_or (λ place. stands c.op (value_of member place) c.value) (place_meant columns c.column) false

abbrev pub meets_all : List JoinedColumn → List Cond → Member → Bool
meets_all columns conditions member = list_all (meets columns member) conditions

-- Whether a member meets a join: its values at the places that the two names mean are equal, and not null. Where one of the
-- names means no place, no member meets it.
abbrev pub meets_join : List JoinedColumn → Member → Join → Bool
meets_join columns member join =
    option_map_or (λ places. are_equal (value_of member places.0) (value_of member places.1))
    (option_zip (place_meant columns (side_name join.left)) (place_meant columns (side_name join.right))) false

abbrev pub meets_joins : List JoinedColumn → List Join → Member → Bool
meets_joins columns joins member = list_all (meets_join columns member) joins

-- ---- what the names mean

-- a name means a place in a table of such a number
abbrev pub MeansAt : List JoinedColumn → (ℕ → Type 0) → ColName → Type 0
MeansAt columns IsSuch name = (place : Place) × (place_meant columns name ≡ Some place) × IsSuch place.source

-- of two sides the outer one means a place in a table before that of this number, and the inner one a place in that table
abbrev pub MeansBoth : List JoinedColumn → ℕ → JoinSide → JoinSide → Type 0
MeansBoth columns number outer inner =
    MeansAt columns (λ n. n < number) (side_name outer) × MeansAt columns (λ n. n ≡ number) (side_name inner)

-- the sides of a join of the table of this number do, and either may be the outer one
abbrev pub MeansItsTable : List JoinedColumn → ℕ × Join → Type 0
MeansItsTable columns join = MeansBoth columns join.0 join.1.left join.1.right ⊎ MeansBoth columns join.0 join.1.right join.1.left

-- Each of these names is that of a table. Those of items and conditions mean places among the tables, and those of each join
-- a place in the table that is joined and one in a table before it.
pub record AllNamesMean (tables : Database) (its : Items) (names : List (List ℕ)) (joins : List Join) (conditions : List Cond) : Type 0 where
  pub of_tables : map (λ table. table.name) (tables_named tables names) ≡ names
  pub of_items : All (MeansAt (joined_columns (tables_named tables names)) (λ n. n < length names)) (named_items its)
  pub of_conditions : All (λ c. MeansAt (joined_columns (tables_named tables names)) (λ n. n < length names) c.column) conditions
  pub of_joins : All (MeansItsTable (joined_columns (tables_named tables names))) (enumerate_from 1 joins)

-- ---- select

-- all names in a select that is resolved do
abbrev pub SelectedNamesMean : Type 0
SelectedNamesMean =
    (records : List Record) (tables : Database) (distinct : Bool) (its : Items) (name : List ℕ) (joins : List Join) (conditions : List Cond)
    (r : Resolved) → resolved_of records tables (command.Select distinct its name joins conditions) ≡ Ok r
    → AllNamesMean tables its (select_names name joins) joins conditions

-- each way to take a row of each of these tables that meets all conditions and all joins, whose names are those of columns of
-- all these tables
abbrev pub members_meeting : List Table → List Join → List Cond → List Member
members_meeting among joins conditions =
    let columns = joined_columns among in
    filter (λ member. meets_all columns conditions member && meets_joins columns joins member)
    (all_members (map (λ table. table.rows) among))

-- The members of a select that is resolved are the ways to take a row of each table that it names which meet what is written,
-- in their order.
abbrev pub SelectsMeetTheWritten : Type 0
SelectsMeetTheWritten =
    (records : List Record) (tables : Database) (distinct : Bool) (its : Items) (name : List ℕ) (joins : List Join) (conditions : List Cond)
    (query : Query) → resolved_of records tables (command.Select distinct its name joins conditions) ≡ Ok (resolved.Select query)
    → members_of tables query.source query.joins ≡ members_meeting (tables_named tables (select_names name joins)) joins conditions

-- ---- update and delete

-- The tests are on the table of that name. The name of each condition means a column of it, and a row passes all tests just
-- where it meets all conditions.
pub record TestsTheWritten (tables : Database) (name : List ℕ) (conditions : List Cond) (n : TableNumber) (tests : List Test) : Type 0 where
  pub table : Table
  pub is_named : table_named name tables ≡ Some table
  pub is_numbered : slice_get tables n.0 ≡ Some table
  pub means : All (λ c. MeansAt (own_columns table) (λ n. n ≡ 0) c.column) conditions
  pub passes : (row : Row) → passes_all tests row ≡ meets_all (own_columns table) conditions (row ∷ [])

abbrev pub UpdatesTestTheWritten : Type 0
UpdatesTestTheWritten =
    (records : List Record) (tables : Database) (name : List ℕ) (settings : List Setting) (conditions : List Cond)
    (n : TableNumber) (assignments : List Assignment) (tests : List Test)
    → resolved_of records tables (command.Update name settings conditions) ≡ Ok (resolved.Update n assignments tests)
    → TestsTheWritten tables name conditions n tests

abbrev pub DeletesTestTheWritten : Type 0
DeletesTestTheWritten =
    (records : List Record) (tables : Database) (name : List ℕ) (conditions : List Cond) (n : TableNumber) (tests : List Test)
    → resolved_of records tables (command.Delete name conditions) ≡ Ok (resolved.Delete n tests)
    → TestsTheWritten tables name conditions n tests

-- ---- what is set, and what is shown

-- the place of an assignment in the table that is set
abbrev pub assigned_place : Assignment → Place
assigned_place a = record { source = 0; column = a.column }

-- The assignments are to the table of that name. There is one for each setting, in their order: at the column that its name means, and of
-- its value.
pub record SetsTheWritten (tables : Database) (name : List ℕ) (settings : List Setting) (n : TableNumber) (assignments : List Assignment) : Type 0 where
  pub table : Table
  pub is_named : table_named name tables ≡ Some table
  pub is_numbered : slice_get tables n.0 ≡ Some table
  pub means : map (λ s. place_meant (own_columns table) (setting_name s)) settings ≡ map (λ a. Some (assigned_place a)) assignments
  pub values : map (λ a. a.value) assignments ≡ map (λ s. s.value) settings

abbrev pub UpdatesSetTheWritten : Type 0
UpdatesSetTheWritten =
    (records : List Record) (tables : Database) (name : List ℕ) (settings : List Setting) (conditions : List Cond)
    (n : TableNumber) (assignments : List Assignment) (tests : List Test)
    → resolved_of records tables (command.Update name settings conditions) ≡ Ok (resolved.Update n assignments tests)
    → SetsTheWritten tables name settings n assignments

-- A select that names what it shows shows the places that the names mean among the tables that it names, in the order of the names.
abbrev pub SelectsShowTheWritten : Type 0
SelectsShowTheWritten =
    (records : List Record) (tables : Database) (distinct : Bool) (named : List ColName) (name : List ℕ) (joins : List Join)
    (conditions : List Cond) (query : Query)
    → resolved_of records tables (command.Select distinct (items.Named named) name joins conditions) ≡ Ok (resolved.Select query)
    → (places : List Place) × (query.shown ≡ shown.Columns places)
    × (map (place_meant (joined_columns (tables_named tables (select_names name joins)))) named ≡ map Some places)
