-- What a catalog tells of the indexes of its tables.
use Rattle.std.specs.Prelude.{◌≡◌, ℕ, Some, length, slice_get}
use Rattle.std.specs.Option.{option_map, option_and_then}
use Rattle.lin_hash.specs.Shape.{HasHashShape}
use Rattle.lin_hash.specs.declared.shape.HashShape.{HashShape}
use Rattle.plain_tables.specs.References.{all_indexes}
use Rattle.plain_tables.specs.declared.schema.IndexKind.{IndexKind}
use Rattle.plain_tables.specs.declared.schema.IndexKind.TheVariants as index
use Rattle.plain_tables.specs.Queries.{column_number}
use Rattle.mm_relation.specs.Changes.{HasHash, entries_of, buckets_of}
use Rattle.mm_relation.specs.Declaring.{declaration}
use Rattle.mm_relation.specs.declared.numbers.DeclaredIndex.{DeclaredIndex}
use Rattle.mm_relation.specs.State.{RelationState}
use Rattle.mm_catalog.specs.Seen.{database_of}
use Rattle.mm_catalog.specs.State.{CatalogState}
use Rattle.mm_catalog.specs.Trees.{TellsTree}
use Rattle.mm_catalog.specs.declared.indexes.IndexShape.{IndexShape}
use Rattle.mm_catalog.specs.declared.indexes.IndexShape.TheVariants.{Tree, Hash}
use Rattle.mm_catalog.specs.declared.indexes.TableIndex.{TableIndex}

-- the tree of the key, as a declaration of it would be
abbrev pub key_tree : DeclaredIndex
key_tree = declaration (column_number 0) index.Tree

-- What is told of the hash on a column of a table. It is the hash itself of that table's relation, and has each row of the table.
pub record TellsHash (c : CatalogState) (table column : ℕ) (shape : HashShape) : Type 0 where
  pub relation : RelationState
  pub there : slice_get c.relations table ≡ Some relation
  pub on_column : HasHash relation column
  pub told : HasHashShape (entries_of relation column) shape
  pub buckets : shape.buckets ≡ buckets_of relation column
  pub rows : option_map (λ t. length t.rows) (slice_get (database_of c) table) ≡ Some shape.items

-- the kind of an index, and what is told of it
abbrev pub kind_of : IndexShape → IndexKind
kind_of (Tree shape) = index.Tree
kind_of (Hash shape) = index.Hash

abbrev pub TellsShape : CatalogState → (table column : ℕ) → IndexShape → Type 0
TellsShape c table column (Tree shape) = TellsTree c table column shape
TellsShape c table column (Hash shape) = TellsHash c table column shape

-- What is told of an index of a table by its number: its column and its kind are those of the declaration with that number, of which
-- the tree of the key is the first, and its shape is that of the index itself.
pub record TellsIndex (c : CatalogState) (table number : ℕ) (told : TableIndex) : Type 0 where
  pub declared : option_and_then (λ t. slice_get (all_indexes t) number) (slice_get (database_of c) table) ≡ Some (told.column.0, kind_of told.shape)
  pub stands : TellsShape c table told.column.0 told.shape
