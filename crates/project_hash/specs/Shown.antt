-- A row of a list beside what is shown of it.
use Rattle.std.specs.Prelude.{◌≡◌, ℕ, ◌<◌, Bool, List, [], length, map, slice_index_or, All, Contains}
use Rattle.std.specs.Ordering.{eq_by_cmp, on}
use Rattle.std.specs.declared.cmp.Ordering.{Ordering}
use Rattle.part_raw.specs.declared.tuple_ref.TupleRef.{TupleRef}
use Rattle.plain_tables.specs.declared.value.Value.{Value}
use Rattle.mm_relation.specs.State.{RelationState}
use Rattle.temp_list.specs.Reading.{AreSound}
use Rattle.temp_list.specs.Lists.{ListState, IsOver}
use Rattle.project_hash.specs.Distinct.{shown_values, shown_rows, values_cmp, AreRising}

-- the references of a row, and the values that are shown of it
pub record ShownState : Type 0 where
  pub references : List TupleRef
  pub values : List Value

-- a row of a list, with the values that the list shows of it
abbrev pub state_of : List RelationState → ListState → List TupleRef → ShownState
state_of relations list row = record { references = row; values = shown_values relations list row }

-- the row at a place of a list
abbrev pub state_at : List RelationState → ListState → ℕ → ShownState
state_at relations list place = state_of relations list (slice_index_or list.rows place [])

-- the place is one of a list over relations that stand rightly among each other
pub record IsOfList (relations : List RelationState) (list : ListState) (place : ℕ) : Type 0 where
  pub sound : AreSound relations
  pub over : IsOver relations list
  pub within : place < length list.rows

-- a row of the list, with the values that the list shows of it
abbrev pub IsShown : List RelationState → ListState → ShownState → Type 0
IsShown relations list row = Contains list.rows row.references × (row.values ≡ shown_values relations list row.references)

-- the values of rows
abbrev pub values_of : List ShownState → List (List Value)
values_of rows = map (λ row. row.values) rows

-- rows compared by their values
abbrev pub rows_cmp : ShownState → ShownState → Ordering
rows_cmp = on (λ (r : ShownState). r.values) values_cmp

-- whether two rows are shown alike
abbrev pub alike : ShownState → ShownState → Bool
alike = eq_by_cmp rows_cmp

-- rows of the list: those that are shown rise, and what the list shows is shown
pub record ShowsOnce (relations : List RelationState) (list : ListState) (rows : List ShownState) : Type 0 where
  pub some : All (IsShown relations list) rows
  pub rising : AreRising (values_of rows)
  pub all : All (Contains (values_of rows)) (shown_rows relations list)

-- the references of rows
abbrev pub references_of : List ShownState → List (List TupleRef)
references_of rows = map (λ row. row.references) rows

-- the list with these rows in the place of its own
abbrev pub with_rows : ListState → List ShownState → ListState
with_rows list rows = record list { rows = references_of rows }
