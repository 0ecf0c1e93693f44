-- The database of plain tables that a catalog is.
use Rattle.std.specs.Prelude.{ℕ, List, [], Option, Some, None, length, map, zip}
use Rattle.std.specs.List.{range_with_len}
use Rattle.std.specs.Option.{option_map_or}
use Rattle.std.specs.FinMap as finite
use Rattle.part_raw.specs.declared.tuple_ref.TupleRef.{TupleRef}
use Rattle.part_raw.specs.Store.{Tuples}
use Rattle.plain_tables.specs.declared.value.Value.{Value}
use Rattle.plain_tables.specs.declared.value.Value.TheVariants.{Null}
use Rattle.plain_tables.specs.Tables.{Table}
use Rattle.plain_tables.specs.Databases.{Database}
use Rattle.mm_relation.specs.Rows.{Row}
use Rattle.mm_relation.specs.declared.numbers.DeclaredIndex.{DeclaredIndex}
use Rattle.plain_tables.specs.declared.schema.IndexKind.{IndexKind}
use Rattle.mm_relation.specs.Reading.{Keys, row_value}
use Rattle.mm_relation.specs.State.{tree_list, RelationState, linked_keys}
use Rattle.mm_catalog.specs.State.{CatalogState}

-- the value that is read, or null where there is none to read
abbrev pub or_null : Option Value → Value
or_null None = Null
or_null (Some value) = value

-- the value that a row has in each of so many columns, read through its links
unfoldable pub row_values : Keys → ℕ → Row → List Value
row_values keys width row = map (λ column. or_null (row_value keys column row)) (range_with_len 0 width)

-- the values of the row that is held under a reference
unfoldable pub values_of : Keys → ℕ → Tuples Row → TupleRef → List Value
values_of keys width rows r = option_map_or (row_values keys width) (finite.get rows r) []

-- the rows of a relation, in the order of their keys
unfoldable pub rows_of : Keys → RelationState → List (List Value)
rows_of keys s = map (values_of keys (length s.schema.columns) s.rows) (tree_list s.by_key)

-- a declaration as a plain table has it: the number of its column, and its kind
abbrev pub plain_index : DeclaredIndex → ℕ × IndexKind
plain_index d = (d.column.0, d.kind)

-- the table that a relation of this name is, among the relations that its links lead into
unfoldable pub table_of : List RelationState → List ℕ → RelationState → Table
table_of relations name s = record {
  name = name;
  columns = s.schema.columns;
  indexes = map plain_index s.declared;
  rows = rows_of (linked_keys s.targets relations) s;
}

-- the tables of a catalog, in the order of their declaration
unfoldable pub database_of : CatalogState → Database
database_of c = map (λ t. table_of c.relations t.0 t.1) (zip c.names c.relations)
