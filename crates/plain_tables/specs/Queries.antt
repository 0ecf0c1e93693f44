-- Queries: the columns that a command names, and how the values in them stand to those of conditions.
--
-- The tables of a command are joined in the order in which it names them. A row of joined tables is the values of a
-- row of each, one after another.
use Rattle.std.specs.Prelude.{ℕ, pos, List, [], ◌∷◌, ◌++◌, Bool, false, true, not, ◌&&◌, ◌==◌, map, length, Option, Some, None, if◌then◌else◌, slice_index_or}
use Rattle.std.specs.List.{filter, find, flat_map, filter_map, enumerate_from}
use Rattle.std.specs.Option.{option_map, option_map_or, option_or, option_zip}
use Rattle.std.specs.Str.{bytes_eq}
use Rattle.std.specs.Ordering.{is_eq, is_lt, is_le, is_gt, is_ge}
use Rattle.std.specs.declared.cmp.Ordering.{Ordering}
use Rattle.plain_tables.specs.Values.{is_null, value_cmp}
use Rattle.plain_tables.specs.Tables.{Table, Row}
use Rattle.plain_tables.specs.declared.value.Value.{Value}
use Rattle.plain_tables.specs.declared.value.Value.TheVariants as value
use Rattle.plain_tables.specs.declared.schema.Column.{Column}
use Rattle.plain_tables.specs.declared.condition.Op.{Op}
use Rattle.plain_tables.specs.declared.condition.Op.TheVariants as op
use Rattle.plain_tables.specs.declared.condition.ColName.{ColName}
use Rattle.plain_tables.specs.declared.numbers.ColumnNumber.{ColumnNumber}
use Rattle.plain_tables.specs.declared.numbers.Place.{Place}
use Rattle.plain_tables.specs.declared.command.Join.{Join}
use Rattle.plain_tables.specs.declared.command.JoinSide.{JoinSide}
use Rattle.plain_tables.specs.declared.command.Items.{Items}
use Rattle.plain_tables.specs.declared.command.Items.TheVariants as items

-- ---- joined tables

-- the number of a column
abbrev pub column_number : ℕ → ColumnNumber
column_number n = record { 0 = n }

-- a column, the name of its table, and its place among joined tables
pub record JoinedColumn : Type 0 where
  pub table : List ℕ
  pub place : Place
  pub column : Column

-- the columns of the table that is joined as the one of this number
abbrev pub source_columns : ℕ × Table → List JoinedColumn
source_columns t = map (λ c. record { table = t.1.name; place = record { source = t.0; column = column_number c.0 }; column = c.1 }) (enumerate_from 0 t.1.columns)

-- the columns of joined tables: those of the first, then those of the second, and so on
abbrev pub joined_columns : List Table → List JoinedColumn
joined_columns tables = flat_map source_columns (enumerate_from 0 tables)

-- ---- the columns that a command names

-- A name fits a column where it is the column's, and the name before it, if one is written, is the table's.
abbrev pub fits : ColName → JoinedColumn → Bool
fits name joined =
    bytes_eq name.column joined.column.name && option_map_or (λ table. bytes_eq table joined.table) name.table true

-- whether a name fits just one of the columns
abbrev pub fits_one : List JoinedColumn → ColName → Bool
fits_one columns name = length (filter (fits name) columns) == 1

-- the column that a name means, where it fits just one
abbrev pub column_meant : List JoinedColumn → ColName → Option JoinedColumn
column_meant columns name = if fits_one columns name then find (fits name) columns else None

-- the place of that column
abbrev pub place_meant : List JoinedColumn → ColName → Option Place
place_meant columns name = option_map (λ joined. joined.place) (column_meant columns name)

-- the places of the columns that the names mean; a name that means none is left out
abbrev pub places_meant : List JoinedColumn → List ColName → List Place
places_meant columns names = filter_map (place_meant columns) names

-- whether two places are one
abbrev pub same_place : Place → Place → Bool
same_place p q = (p.source == q.source) && (p.column.0 == q.column.0)

-- the value at a place in the row; behind the row's end, where a row that fits its columns is never asked, it is 0
abbrev pub value_at : Row → ℕ → Value
value_at row place = slice_index_or row place (value.Int (pos 0))

-- ---- conditions

-- whether two values that compare so are ordered as the operator says
abbrev pub are_ordered : Op → Ordering → Bool
are_ordered op.Eq o = is_eq o
are_ordered op.Ne o = not (is_eq o)
are_ordered op.Lt o = is_lt o
are_ordered op.Le o = is_le o
are_ordered op.Gt o = is_gt o
are_ordered op.Ge o = is_ge o

-- Whether a value stands to null as the operator says: a null by =, any other value by <>, and none by another operator.
abbrev pub stands_to_null : Op → Value → Bool
stands_to_null op.Eq v = is_null v
stands_to_null op.Ne v = not (is_null v)
stands_to_null operator v = false

-- Whether a value stands to the value of a condition as the operator says. A null stands to no value but null.
abbrev pub stands : Op → Value → Value → Bool
stands operator v value.Null = stands_to_null operator v
stands operator value.Null w = false
stands operator v w = are_ordered operator (value_cmp v w)

-- ---- joins

-- a side of a join names a column with its table
abbrev pub side_name : JoinSide → ColName
side_name side = record { table = Some side.table; column = side.column }

-- The two columns that a join makes equal: one of the tables before it, and one of its own. Either side may name either.
abbrev pub sides_meant : List JoinedColumn → List JoinedColumn → Join → Option (JoinedColumn × JoinedColumn)
sides_meant before own join =
    option_or (option_zip (column_meant before (side_name join.left)) (column_meant own (side_name join.right)))
    (option_zip (column_meant before (side_name join.right)) (column_meant own (side_name join.left)))

-- ---- items

-- the columns that are named as items; where all are meant, none is named
abbrev pub named_items : Items → List ColName
named_items items.All = []
named_items (items.Named names) = names

-- the name of a column behind its table's
abbrev pub full_name : List ℕ → Column → List ℕ
full_name table column = table ++ 46 ∷ column.name
