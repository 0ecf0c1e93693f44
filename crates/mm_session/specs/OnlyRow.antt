-- A select of one table of which one row passes at most, and what is shown of it.
use Rattle.std.specs.Prelude.{◌≡◌, ℕ, List, Option, length, map}
use Rattle.std.specs.List.{range_with_len}
use Rattle.std.specs.Option.{option_to_list}
use Rattle.part_raw.specs.declared.tuple_ref.TupleRef.{TupleRef}
use Rattle.plain_tables.specs.Queries.{column_number}
use Rattle.plain_tables.specs.Tables.{Row}
use Rattle.plain_tables.specs.declared.numbers.ColumnNumber.{ColumnNumber}
use Rattle.plain_tables.specs.declared.resolved.Query.{Query}
use Rattle.plain_tables.specs.declared.resolved.Shown.{Shown}
use Rattle.plain_tables.specs.declared.resolved.Shown.TheVariants as shown
use Rattle.mm_relation.specs.State.{RelationState}
use Rattle.mm_catalog.specs.State.{CatalogState}
use Rattle.temp_list.specs.Reading.{OfRelation, passing, value_in}
use Rattle.mm_session.specs.Walked.{IsOrdered}

-- The query is one of a table alone, whose rows are shown in the order of their keys. These are the rows that pass, in that order.
pub record ShowsRows (c : CatalogState) (query : Query) (rows : List TupleRef) : Type 0 where
  pub ordered : IsOrdered query
  pub pass : OfRelation c.relations query.source.table.0 (λ s. passing c.relations s query.source.tests ≡ rows)

-- The query is one of a table alone, whose rows are shown in the order of their keys. This row passes, or none, and no other does.
pub record ShowsOnly (c : CatalogState) (query : Query) (row : Option TupleRef) : Type 0 where
  pub ordered : IsOrdered query
  pub passes : OfRelation c.relations query.source.table.0 (λ s. passing c.relations s query.source.tests ≡ option_to_list row)

-- the columns that are shown of one table of so many columns
abbrev pub columns_shown : ℕ → Shown → List ColumnNumber
columns_shown width shown.All = map column_number (range_with_len 0 width)
columns_shown width (shown.Columns places) = map (λ place. place.column) places

-- the values that are shown of a row of a table alone
abbrev pub values_shown : CatalogState → RelationState → Shown → TupleRef → Row
values_shown c s its r = map (λ column. value_in c.relations s column.0 r) (columns_shown (length s.schema.columns) its)
