-- What it is for an index to be taken out of a table whole, and to be put back.
use Rattle.std.specs.Prelude.{◌≡◌, ℕ, ◌<◌, ◌≤◌, Bool, false, List, Option, Some, insert, length, slice_get}
use Rattle.std.specs.FinMap as finite
use Rattle.std.specs.List.{list_any}
use Rattle.std.specs.Option.{option_and_then, option_map_or}
use Rattle.plain_tables.specs.Databases.{Database}
use Rattle.plain_tables.specs.References as plain
use Rattle.plain_tables.specs.declared.numbers.ColumnNumber.{ColumnNumber}
use Rattle.plain_tables.specs.declared.schema.IndexKind.{IndexKind}
use Rattle.mm_relation.specs.Indexes.{Serves, declaration_of, seen}
use Rattle.mm_relation.specs.Owing.{IsReady}
use Rattle.mm_relation.specs.Reading.{Keys, key_at}
use Rattle.mm_relation.specs.Taken.{DroppedState}
use Rattle.mm_catalog.specs.Linked.{target_at}
use Rattle.mm_catalog.specs.Outline.{Outline, RelationOutline, changed_at}

-- whether the table of a number has a declared index of this kind on this column
abbrev pub has_index : Database → ℕ → ColumnNumber → IndexKind → Bool
has_index tables n column k = option_map_or (λ t. list_any (plain.is_index column k) t.indexes) (slice_get tables n) false

-- the index is declared again, at its place among the others
abbrev pub indexed_again : DroppedState → RelationOutline → RelationOutline
indexed_again d s = record s { declared = insert s.declared d.place (declaration_of d.on) }

-- the outline where the table of a number has this index again
abbrev pub with_index_of : ℕ → DroppedState → Outline → Outline
with_index_of n d o = record o { relations = changed_at (indexed_again d) n o.relations }

-- the keys of the rows that links lead to
abbrev pub keys_read : List (Option ℕ) → List RelationOutline → Keys
keys_read targets relations column to = option_and_then (λ s. key_at s.rows to) (option_and_then (slice_get relations) (target_at targets column))

-- The table of a number has the index's column and place, and there is memory for its declaration. The index can take in the rows that
-- are owed, and serves the rows that are there.
pub record CanHaveIndex (o : Outline) (n : ℕ) (d : DroppedState) : Type 0 where
  pub relation : RelationOutline
  pub there : slice_get o.relations n ≡ Some relation
  pub column : d.on.column.0 < length relation.targets
  pub place : d.place ≤ length relation.declared
  pub places : length relation.declared < d.places
  pub ready : IsReady relation.owed relation.hidden d.on
  pub served : Serves (keys_read relation.targets o.relations) relation.rows (finite.keys relation.rows) (seen d.on)

-- the table of a number has this index no longer, and nothing else differs
pub record HasIndexLess (old new : Outline) (n : ℕ) (d : DroppedState) : Type 0 where
  pub can : CanHaveIndex new n d
  pub others : with_index_of n d new ≡ old
