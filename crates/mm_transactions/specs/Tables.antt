-- The database of plain tables that an outline is.
use Rattle.std.specs.Prelude.{ℕ, List, [], ◌∷◌, length, map, zip}
use Rattle.std.specs.FinMap as finite
use Rattle.plain_tables.specs.Databases.{Database}
use Rattle.plain_tables.specs.Tables.{Row, Table, with_row}
use Rattle.mm_relation.specs.Reading.{Keys}
use Rattle.mm_catalog.specs.Outline.{Outline, RelationOutline}
use Rattle.mm_catalog.specs.Seen.{plain_index, values_of}
use Rattle.mm_catalog.specs.Unindexed.{keys_read}

-- rows put in, one after the other, each at the place of its key
abbrev pub in_key_order : List Row → List Row
in_key_order [] = []
in_key_order (row ∷ rows) = with_row row (in_key_order rows)

-- the rows of a relation, in the order of their keys
unfoldable pub rows_in : Keys → RelationOutline → List Row
rows_in keys s = in_key_order (map (values_of keys (length s.schema.columns) s.rows) (finite.keys s.rows))

-- the table that a relation of this name is
unfoldable pub table_in : List RelationOutline → List ℕ → RelationOutline → Table
table_in relations name s = record {
  name = name;
  columns = s.schema.columns;
  indexes = map plain_index s.declared;
  rows = rows_in (keys_read s.targets relations) s;
}

-- the tables of an outline
unfoldable pub tables_in : Outline → Database
tables_in o = map (λ t. table_in o.relations t.0 t.1) (zip o.names o.relations)
