-- Rows that values are assigned to: the cells that are set in them, and the links that come and go.
use Rattle.std.specs.Prelude.{◌≡◌, ◌⊎◌, ℕ, ◌<◌, List, [], Option, Some, None, All, AllPairs, length, slice_get, take}
use Rattle.std.specs.List.{filter_map, flat_map}
use Rattle.std.specs.Option.{option_and_then, option_map, option_map_or}
use Rattle.std.specs.FinMap as finite
use Rattle.part_raw.specs.declared.tuple_ref.TupleRef.{TupleRef}
use Rattle.plain_tables.specs.declared.numbers.ColumnNumber.{ColumnNumber}
use Rattle.plain_tables.specs.declared.refusal.Refusal.{Refusal}
use Rattle.plain_tables.specs.declared.refusal.Refusal.TheVariants.{NoReferencedRow, NoMemory}
use Rattle.plain_tables.specs.declared.resolved.Assignment.{Assignment}
use Rattle.mm_relation.specs.declared.row.Cell.{Cell}
use Rattle.mm_relation.specs.Rows.{Row}
use Rattle.mm_relation.specs.Changes.{IsChanged}
use Rattle.mm_relation.specs.Reading.{link_of}
use Rattle.mm_relation.specs.State.{RelationState, IsKept}
use Rattle.mm_catalog.specs.State.{CatalogState}
use Rattle.mm_catalog.specs.Linked.{Linked, target_at, link_at}
use Rattle.mm_catalog.specs.Cells.{IsCellOf, NamesNone}
use Rattle.mm_catalog.specs.Changes.{IsCurrentAt}
use Rattle.mm_catalog.specs.Consistent.{AreCounted, IsConsistent}
use Rattle.mm_catalog.specs.Recounted.{IsRewritten}

-- a cell to be set, and its column
abbrev pub CellSet : Type 0
CellSet = ColumnNumber × Cell

-- ---- the cells

-- the cell that this assignment sets
abbrev pub IsSetBy : List RelationState → List (Option ℕ) → Assignment → CellSet → Type 0
IsSetBy relations targets a s = (s.0 ≡ a.column) × IsCellOf relations (target_at targets a.column.0) a.value s.1

-- those of the first of these assignments
abbrev pub AreFirstSetBy : List RelationState → List (Option ℕ) → List Assignment → List CellSet → Type 0
AreFirstSetBy relations targets assignments sets =
    (k : ℕ) (a : Assignment) (s : CellSet) → slice_get assignments k ≡ Some a → slice_get sets k ≡ Some s → IsSetBy relations targets a s

-- the cells that these assignments set, one for each
pub record AreSetBy (relations : List RelationState) (targets : List (Option ℕ)) (assignments : List Assignment) (sets : List CellSet) : Type 0 where
  pub count : length sets ≡ length assignments
  pub each : AreFirstSetBy relations targets assignments sets

-- one of the assignments names no row
abbrev pub SomeAssignsNone : List RelationState → List (Option ℕ) → List Assignment → Type 0
SomeAssignsNone relations targets assignments =
    (k : ℕ) × (a : Assignment) × (slice_get assignments k ≡ Some a) × NamesNone relations (target_at targets a.column.0) a.value

-- why the assignments set no cells
abbrev pub AreNotSet : List RelationState → List (Option ℕ) → List Assignment → Refusal → Type 0
AreNotSet relations targets assignments refusal =
    (refusal ≡ NoMemory) ⊎ ((refusal ≡ NoReferencedRow None) × SomeAssignsNone relations targets assignments)

-- each to a column behind the key, of so many, and no two to one
pub record AreToColumns (width : ℕ) (assignments : List Assignment) : Type 0 where
  pub behind_key : All (λ a. 0 < a.column.0) assignments
  pub within : All (λ a. a.column.0 < width) assignments
  pub apart : AllPairs (λ a b. a.column.0 ≡ b.column.0 → ⊥) assignments

-- ---- the links

-- the link that a cell is in a column, and those that cells are
abbrev pub set_link : List (Option ℕ) → CellSet → Option Linked
set_link targets s = option_and_then (λ table. option_map (λ to. (table, to)) (link_of s.1)) (target_at targets s.0.0)

unfoldable pub set_links : List (Option ℕ) → List CellSet → List Linked
set_links targets sets = filter_map (set_link targets) sets

-- the links that a row has where these cells are set, and those of rows
unfoldable pub row_links_at : List (Option ℕ) → List CellSet → Row → List Linked
row_links_at targets sets row = filter_map (λ s. link_at targets row s.0.0) sets

unfoldable pub links_at : RelationState → List CellSet → List TupleRef → List Linked
links_at s sets rs = flat_map (λ r. option_map_or (row_links_at s.targets sets) (finite.get s.rows r) []) rs

-- ---- the relations

-- they are those of a consistent catalog
abbrev pub AreConsistent : List RelationState → Type 0
AreConsistent relations = (c : CatalogState) × (c.relations ≡ relations) × IsConsistent c

-- a relation and those before it, as they stand in a consistent catalog
abbrev pub StandsIn : CatalogState → ℕ → List RelationState → RelationState → Type 0
StandsIn c n before s = IsConsistent c × (slice_get c.relations n ≡ Some s) × (before ≡ take n c.relations)

-- Rows of the relation of a number have the cells that these assignments set. It and the others are counted anew, and
-- stand as they should.
pub record IsUpdated (old new : List RelationState) (n : ℕ) (rs : List TupleRef) (assignments : List Assignment) : Type 0 where
  pub before : RelationState
  pub after : RelationState
  pub sets : List CellSet
  pub rewritten : IsRewritten old new n before after
  pub cells : AreSetBy (take n old) before.targets assignments sets
  pub changed : IsChanged before after rs sets
  pub kept : All IsKept new
  pub current : IsCurrentAt new n
  pub counted : AreCounted new

-- why no row of the relation of a number has them
abbrev pub IsNotUpdated : List RelationState → ℕ → List Assignment → Refusal → Type 0
IsNotUpdated old n assignments refusal =
    (before : RelationState) × (slice_get old n ≡ Some before) × AreNotSet (take n old) before.targets assignments refusal
