-- Cells that are set in rows.
use Rattle.std.specs.List.{list_any}
use Rattle.std.specs.Prelude.{Bool, ◌==◌, ◌≡◌, ℕ, zero, suc, ◌-◌, ◌<◌, ◌++◌, slice_set, [], ◌∷◌, List, Option, IsSome, All, Contains}
use Rattle.std.specs.Option.{option_map}
use Rattle.std.specs.FinMap as finite
use Rattle.part_raw.specs.declared.tuple_ref.TupleRef.{TupleRef}
use Rattle.part_raw.specs.Store.{Tuples}
use Rattle.plain_tables.specs.declared.numbers.ColumnNumber.{ColumnNumber}
use Rattle.mm_relation.specs.Rows.{Row}
use Rattle.mm_relation.specs.declared.row.Cell.{Cell}
use Rattle.mm_relation.specs.Reading.{Keys, cell_value, link_of, value_at}

-- a row with these cells set
abbrev pub with_cells : List (ColumnNumber × Cell) → Row → Row
with_cells [] t = t
with_cells (s ∷ rest) t = with_cells rest (record t { cells = slice_set t.cells (s.0.0 - 1) s.1 })

-- these cells are set in exactly these rows
pub record CellsSet (old new : Tuples Row) (rs : List TupleRef) (sets : List (ColumnNumber × Cell)) : Type 0 where
  pub changed : (r : TupleRef) → Contains rs r → finite.get new r ≡ option_map (with_cells sets) (finite.get old r)
  pub others : (r : TupleRef) → (Contains rs r → ⊥) → finite.get new r ≡ finite.get old r

-- the columns are beside the key, each row has a value in each, and so has each cell
pub record CanSet (keys : Keys) (rows : Tuples Row) (sets : List (ColumnNumber × Cell)) : Type 0 where
  pub not_the_key : All (λ s. 0 < s.0.0) sets
  pub columns : All (λ s. (q : TupleRef) → IsSome (finite.get rows q) → IsSome (value_at keys s.0.0 rows q)) sets
  pub cells : All (λ s. IsSome (cell_value keys s.0.0 s.1)) sets

-- a pile of cells with these on top, the first uppermost
abbrev pub piled : List (ColumnNumber × Cell) → List Cell → List Cell
piled [] under = under
piled (s ∷ rest) under = piled rest under ++ (s.1 ∷ [])

-- a pile of these cells so many times
abbrev pub pile : ℕ → List (ColumnNumber × Cell) → List Cell
pile zero sets = []
pile (suc n) sets = piled sets (pile n sets)

-- these cells lie on top
abbrev pub IsPiled : List (ColumnNumber × Cell) → List Cell → Type 0
IsPiled sets copies = (under : List Cell) × (copies ≡ piled sets under)

-- the column of a cell that is set, and the row that it names
abbrev pub link_set : ColumnNumber × Cell → ColumnNumber × Option TupleRef
link_set s = (s.0, link_of s.1)

-- whether one of these cells is set in this column
abbrev pub sets_column : List (ColumnNumber × Cell) → ℕ → Bool
sets_column sets column = list_any (λ s. s.0.0 == column) sets
