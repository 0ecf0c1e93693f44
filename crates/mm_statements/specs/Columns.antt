-- Columns: what a resolution tells of the columns that a select shows.
use Rattle.std.specs.Prelude.{List, [], ◌∷◌, map, pos, slice_get}
use Rattle.std.specs.List.{flat_map}
use Rattle.std.specs.Option.{option_and_then, option_map_or}
use Rattle.plain_tables.specs.Databases.{Database}
use Rattle.plain_tables.specs.Queries.{full_name}
use Rattle.plain_tables.specs.References.{type_of}
use Rattle.plain_tables.specs.Tables.{Table}
use Rattle.plain_tables.specs.declared.numbers.Place.{Place}
use Rattle.plain_tables.specs.declared.numbers.TableNumber.{TableNumber}
use Rattle.plain_tables.specs.declared.resolved.Shown.{Shown}
use Rattle.plain_tables.specs.declared.resolved.Shown.TheVariants as shown
use Rattle.plain_tables.specs.declared.schema.Column.{Column}
use Rattle.plain_tables.specs.declared.value.Value.{Value}
use Rattle.plain_tables.specs.declared.value.Value.TheVariants as value
use Rattle.plain_statements.specs.declared.resolution.SlotQuery.{SlotQuery}
use Rattle.plain_statements.specs.declared.resolution.Template.{Template}
use Rattle.plain_statements.specs.declared.resolution.Template.TheVariants as template
use Rattle.mm_session.specs.Columns.{kind_number}

-- the tables that a query joins, in their order
abbrev pub source_tables : SlotQuery → List TableNumber
source_tables query = query.source.table ∷ map (λ join. join.source.table) query.joins

-- the name of a table's column, and the number of its kind
abbrev pub column_of : Database → Table → Column → List Value
column_of tables table column =
    value.Text (full_name table.name column) ∷ value.Int (pos (kind_number (type_of tables column.kind))) ∷ []

-- all columns of the table of a number
abbrev pub columns_of_table : Database → TableNumber → List Value
columns_of_table tables n = option_map_or (λ table. flat_map (column_of tables table) table.columns) (slice_get tables n.0) []

-- the column at a place of the tables of these numbers
abbrev pub column_placed : Database → List TableNumber → Place → List Value
column_placed tables numbers place =
    option_map_or (λ table. option_map_or (column_of tables table) (slice_get table.columns place.column.0) [])
    (option_and_then (λ n. slice_get tables n.0) (slice_get numbers place.source)) []

-- the columns that items show of the tables of these numbers
abbrev pub columns_shown : Database → List TableNumber → Shown → List Value
columns_shown tables numbers shown.All = flat_map (columns_of_table tables) numbers
columns_shown tables numbers (shown.Columns places) = flat_map (column_placed tables numbers) places

-- the columns that a query shows, whatever its values are
abbrev pub columns_of_query : Database → SlotQuery → List Value
columns_of_query tables query = columns_shown tables (source_tables query) query.shown

-- the columns of what a template shows; but for a select there are none
abbrev pub columns_of_template : Database → Template → List Value
columns_of_template tables (template.Select query) = columns_of_query tables query
columns_of_template tables other = []
