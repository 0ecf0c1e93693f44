-- Rows that values are assigned to, where what stood in their cells is noted.
use Rattle.std.specs.Prelude.{◌≡◌, ℕ, ◌+◌, ◌-◌, ◌≤◌, List, [], Option, Some, length, slice_get, slice_set}
use Rattle.std.specs.List.{filter_map, flat_map}
use Rattle.std.specs.Option.{option_map, option_map_or}
use Rattle.std.specs.FinMap as finite
use Rattle.part_raw.specs.declared.tuple_ref.TupleRef.{TupleRef}
use Rattle.plain_tables.specs.declared.resolved.Assignment.{Assignment}
use Rattle.mm_relation.specs.Rows.{Row}
use Rattle.mm_relation.specs.State.{RelationState}
use Rattle.mm_catalog.specs.Assigned.{CellSet, IsUpdated}

-- the cell of a row in the column of an assignment
abbrev pub cell_to : Row → Assignment → Option CellSet
cell_to row a = option_map (λ cell. (a.column, cell)) (slice_get row.cells (a.column.0 - 1))

-- the cells of a row in the columns of assignments, and those of rows, one row's behind the other's
unfoldable pub cells_to : List Assignment → Row → List CellSet
cells_to assignments row = filter_map (cell_to row) assignments

unfoldable pub cells_at : RelationState → List Assignment → List TupleRef → List CellSet
cells_at s assignments rs = flat_map (λ r. option_map_or (cells_to assignments) (finite.get s.rows r) []) rs

-- the relation that owes so many rows more
abbrev pub owing : ℕ → RelationState → RelationState
owing count s = record s { owed = s.owed + count }

-- rows of the relation of a number, which owes them then, have the cells that these assignments set; those before are noted
pub record IsNoted (old new : List RelationState) (n : ℕ) (rs : List TupleRef) (assignments : List Assignment) (cells : List CellSet) : Type 0 where
  pub before : RelationState
  pub there : slice_get old n ≡ Some before
  pub few : finite.len before.hidden ≤ before.owed
  pub updated : IsUpdated (slice_set old n (owing (length rs) before)) new n rs assignments
  pub were : cells ≡ cells_at before assignments rs
