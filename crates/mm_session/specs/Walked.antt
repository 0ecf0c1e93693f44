-- A select whose rows are shown as they are found: by a walk of a key, or, of one table, each list of values once.
use Rattle.std.specs.Prelude.{◌≡◌, ℕ, ◌<◌, true, false, List, [], ◌++◌, length, map}
use Rattle.std.specs.List.{All}
use Rattle.part_raw.specs.declared.tuple_ref.TupleRef.{TupleRef}
use Rattle.plain_tables.specs.Csv.{block_text}
use Rattle.plain_tables.specs.Tables.{Row}
use Rattle.plain_tables.specs.Joining.{members_of}
use Rattle.plain_tables.specs.Doing.{headings, joined_tables, shown_rows}
use Rattle.plain_tables.specs.ResolvedLaws.{IsMeant}
use Rattle.plain_tables.specs.declared.numbers.Place.{Place}
use Rattle.plain_tables.specs.declared.resolved.Query.{Query}
use Rattle.plain_tables.specs.declared.resolved.Resolved.TheVariants as resolved
use Rattle.mm_relation.specs.State.{RelationState}
use Rattle.mm_catalog.specs.State.{CatalogState}
use Rattle.mm_catalog.specs.Seen.{database_of}
use Rattle.temp_list.specs.Reading.{value_in}

-- the values that are shown of a row of one table
abbrev pub shown_row : CatalogState → RelationState → List Place → TupleRef → Row
shown_row c s places r = map (λ place. value_in c.relations s place.column.0 r) places

-- the columns of the places are there
abbrev pub AreColumns : RelationState → List Place → Type 0
AreColumns s places = All (λ place. place.column.0 < length s.schema.columns) places

-- The query is one of a table alone, whose rows are shown in the order of their keys.
abbrev pub IsOrdered : Query → Type 0
IsOrdered query = (query.distinct ≡ false) × (query.joins ≡ [])

-- The query is one of a table alone, which shows each list of values once.
abbrev pub ShowsOnce : Query → Type 0
ShowsOnce query = (query.distinct ≡ true) × (query.joins ≡ [])

-- Such a query of these tables, which a look at each row answers.
abbrev pub IsScan : CatalogState → Query → Type 0
IsScan c query = IsMeant c.limits (database_of c) (resolved.Select query) × ShowsOnce query

-- the rows that a query shows
abbrev pub rows_shown : CatalogState → Query → List Row
rows_shown c query = shown_rows query.distinct query.shown (members_of (database_of c) query.source query.joins)

-- the page with the block of a query behind it, and how many rows that has
pub record IsPageWith (c : CatalogState) (query : Query) (page whole : List ℕ) (count : ℕ) : Type 0 where
  pub made : whole ≡ page ++ block_text (headings (joined_tables (database_of c) query.source query.joins) query.shown) (rows_shown c query)
  pub counted : count ≡ length (rows_shown c query)
