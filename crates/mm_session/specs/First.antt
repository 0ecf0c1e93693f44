-- The first rows that a select shows.
use Rattle.std.specs.Prelude.{◌≡◌, ℕ, List, length, take}
use Rattle.std.specs.List.{flat_map}
use Rattle.part_raw.specs.declared.tuple_ref.TupleRef.{TupleRef}
use Rattle.plain_tables.specs.Effects.{Outcome, Rows}
use Rattle.plain_tables.specs.declared.resolved.Query.{Query}
use Rattle.plain_tables.specs.declared.value.Value.{Value}
use Rattle.mm_catalog.specs.State.{CatalogState}
use Rattle.temp_list.specs.Reading.{OfRelation, passing}
use Rattle.mm_session.specs.Walked.{IsOrdered}

-- The query is one of a table alone, whose rows are shown in the order of their keys. These are the first rows that pass, so many at most.
pub record ShowsFirstRows (c : CatalogState) (query : Query) (most : ℕ) (rows : List TupleRef) : Type 0 where
  pub ordered : IsOrdered query
  pub pass : OfRelation c.relations query.source.table.0 (λ s. rows ≡ take most (passing c.relations s query.source.tests))

-- the values are those of the first rows that are shown, so many at most, a row behind the other, each of so many columns
abbrev pub ShowsFirst : Outcome → ℕ → ℕ → List Value → Type 0
ShowsFirst (Rows names rows) most columns values = (columns ≡ length names) × (values ≡ flat_map (λ row. row) (take most rows))
ShowsFirst outcome most columns values = ⊥
