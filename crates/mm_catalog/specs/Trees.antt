-- What a catalog tells of the trees of its tables.
use Rattle.std.specs.Prelude.{◌≡◌, ℕ, ◌+◌, ◌≤◌, Some, length, slice_get}
use Rattle.std.specs.Option.{option_map}
use Rattle.ttree.specs.Shape.{HasShape, IsWellShaped, fib}
use Rattle.ttree.specs.declared.shape.TreeShape.{TreeShape}
use Rattle.mm_relation.specs.Changes.{HasTree, tree_on}
use Rattle.mm_relation.specs.State.{RelationState}
use Rattle.mm_catalog.specs.Seen.{database_of}
use Rattle.mm_catalog.specs.State.{CatalogState}

-- What is told of the tree on a column of a table. It is the tree itself of that table's relation, in the shape that the trees of tables keep to; it has each row of the table, and is as low as a balanced tree of so many rows.
pub record TellsTree (c : CatalogState) (table column : ℕ) (shape : TreeShape) : Type 0 where
  pub relation : RelationState
  pub there : slice_get c.relations table ≡ Some relation
  pub on_column : HasTree relation column
  pub told : HasShape (tree_on relation column) shape
  pub kept : IsWellShaped 30 32 (tree_on relation column)
  pub rows : option_map (λ t. length t.rows) (slice_get (database_of c) table) ≡ Some shape.items
  pub low : fib (shape.height + 2) ≤ 1 + shape.items
