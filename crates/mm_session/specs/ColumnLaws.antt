-- The law of columns: those that are told of a select are the heading of its answer, with the kinds that the tables declare.
use Rattle.std.specs.Prelude.{◌≡◌, ℕ, List, [], ◌∷◌, Bool, Option, Some, Ok, length, map, pos, zip}
use Rattle.std.specs.List.{flat_map}
use Rattle.plain_tables.specs.CsvReading.{Record}
use Rattle.plain_tables.specs.Databases.{Database}
use Rattle.plain_tables.specs.Doing.{done}
use Rattle.plain_tables.specs.Effects.{Rows}
use Rattle.plain_tables.specs.Queries.{JoinedColumn, column_meant, joined_columns}
use Rattle.plain_tables.specs.References.{type_of}
use Rattle.plain_tables.specs.Resolving.{resolved_of, select_names}
use Rattle.plain_tables.specs.Tables.{Row}
use Rattle.plain_tables.specs.WrittenLaws.{tables_named}
use Rattle.plain_tables.specs.declared.command.Command.TheVariants as command
use Rattle.plain_tables.specs.declared.command.Items.{Items}
use Rattle.plain_tables.specs.declared.command.Items.TheVariants as items
use Rattle.plain_tables.specs.declared.command.Join.{Join}
use Rattle.plain_tables.specs.declared.command.Limits.{Limits}
use Rattle.plain_tables.specs.declared.condition.Cond.{Cond}
use Rattle.plain_tables.specs.declared.resolved.Query.{Query}
use Rattle.plain_tables.specs.declared.resolved.Resolved.TheVariants as resolved
use Rattle.plain_tables.specs.declared.schema.BaseKind.{BaseKind}
use Rattle.plain_tables.specs.declared.value.Value.{Value}
use Rattle.plain_tables.specs.declared.value.Value.TheVariants as value
use Rattle.mm_session.specs.Columns.{columns_told, kind_number}

-- the columns that the written items mean, in their order: where all are meant, those of all tables
abbrev pub items_meant : List JoinedColumn → Items → List (Option JoinedColumn)
items_meant columns items.All = map Some columns
items_meant columns (items.Named names) = map (column_meant columns) names

-- a name, and the number of a kind
abbrev pub name_and_kind : List ℕ → Option BaseKind → List Value
name_and_kind name kind = value.Text name ∷ value.Int (pos (kind_number kind)) ∷ []

-- Each item means one of these columns. As many names stand above the rows, and what is told is each of these names, in their order, and
-- the kind that the tables declare of the column that its item means.
pub record TellsHeading (tables : Database) (columns : List JoinedColumn) (its : Items) (names : List (List ℕ)) (told : List Value) : Type 0 where
  pub meant : List JoinedColumn
  pub written : items_meant columns its ≡ map Some meant
  pub as_many : length names ≡ length meant
  pub each : told ≡ flat_map (λ c. name_and_kind c.0 (type_of tables c.1.column.kind)) (zip names meant)

-- What is told of the columns of a select that is resolved is the heading of its answer, and the kinds of its items.
abbrev pub ColumnsAreTheHeading : Type 0
ColumnsAreTheHeading =
    (records : List Record) (limits : Limits) (tables : Database) (distinct : Bool) (its : Items) (name : List ℕ) (joins : List Join)
    (conditions : List Cond) (query : Query)
    → resolved_of records tables (command.Select distinct its name joins conditions) ≡ Ok (resolved.Select query)
    → (names : List (List ℕ)) × (rows : List Row) × ((done limits tables (resolved.Select query)).outcome ≡ Rows names rows)
    × TellsHeading tables (joined_columns (tables_named tables (select_names name joins))) its names (columns_told tables query)
