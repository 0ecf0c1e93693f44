-- The columns of what a select shows: of each its name, and the kind of its values.
use Rattle.std.specs.Prelude.{ℕ, List, [], ◌∷◌, Option, Some, pos, slice_get}
use Rattle.std.specs.List.{flat_map}
use Rattle.std.specs.Option.{option_and_then}
use Rattle.plain_tables.specs.Databases.{Database}
use Rattle.plain_tables.specs.Doing.{joined_tables}
use Rattle.plain_tables.specs.References.{type_of}
use Rattle.plain_tables.specs.Tables.{Table}
use Rattle.plain_tables.specs.declared.schema.BaseKind.{BaseKind}
use Rattle.plain_tables.specs.declared.schema.BaseKind.TheVariants as base
use Rattle.plain_tables.specs.declared.schema.Column.{Column}
use Rattle.plain_tables.specs.declared.numbers.Place.{Place}
use Rattle.plain_tables.specs.declared.resolved.Query.{Query}
use Rattle.plain_tables.specs.declared.value.Value.{Value}
use Rattle.plain_tables.specs.declared.value.Value.TheVariants as value
use Rattle.mm_session.specs.Shown.{heading, places_shown}

-- the column at a place among joined tables
abbrev pub column_at : List Table → Place → Option Column
column_at joined place = option_and_then (λ table. slice_get table.columns place.column.0) (slice_get joined place.source)

-- the kind of the values at a place among joined tables
abbrev pub kind_at : Database → List Table → Place → Option BaseKind
kind_at tables joined place = option_and_then (λ column. type_of tables column.kind) (column_at joined place)

-- the number of a kind of values: 2 of texts, else 1
abbrev pub kind_number : Option BaseKind → ℕ
kind_number (Some base.Text) = 2
kind_number other = 1

-- the name of the column at a place, behind its table's, and the number of its kind
abbrev pub column_told : Database → List Table → Place → List Value
column_told tables joined place = value.Text (heading joined place) ∷ value.Int (pos (kind_number (kind_at tables joined place))) ∷ []

-- the columns of what a query shows of these tables
abbrev pub columns_told : Database → Query → List Value
columns_told tables query =
    let joined = joined_tables tables query.source query.joins in
    flat_map (column_told tables joined) (places_shown joined query.shown)
