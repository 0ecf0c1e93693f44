-- What a list shows of the tables of a catalog.
use Rattle.std.specs.Prelude.{◌≡◌, ℕ, ◌<◌, Bool, true, false, List, [], map, length}
use Rattle.std.specs.List.Sorted.{IsSorted}
use Rattle.std.specs.Option.{option_map_or}
use Rattle.part_raw.specs.declared.tuple_ref.TupleRef.{TupleRef}
use Rattle.plain_tables.specs.Tables.{Table, Row}
use Rattle.plain_tables.specs.Queries.{joined_columns}
use Rattle.plain_tables.specs.Doing.{name_at}
use Rattle.plain_tables.specs.declared.numbers.Place.{Place}
use Rattle.plain_tables.specs.declared.resolved.Shown.{Shown}
use Rattle.plain_tables.specs.declared.resolved.Shown.TheVariants as shown
use Rattle.mm_catalog.specs.State.{CatalogState}
use Rattle.mm_index.specs.Bag.{IsSameBag}
use Rattle.mm_relation.specs.State.{RelationState}
use Rattle.temp_list.specs.Lists.{ListState, IsOver, value_of, keys_cmp}
use Rattle.project_hash.specs.Distinct.{IsDistinctOf}

-- the places that are shown of joined tables
abbrev pub places_shown : List Table → Shown → List Place
places_shown tables shown.All = map (λ joined. joined.place) (joined_columns tables)
places_shown tables (shown.Columns places) = places

-- the name of the column at a place among these tables, behind its table's
abbrev pub heading : List Table → Place → List ℕ
heading tables place = option_map_or (λ name. name) (name_at tables place) []

-- the values at these places of a row over sources
abbrev pub placed_values : CatalogState → List ℕ → List Place → List TupleRef → Row
placed_values c sources places row = map (value_of c.relations sources row) places

-- the values that a list shows of a row
abbrev pub list_values : CatalogState → ListState → List TupleRef → Row
list_values c list row = placed_values c list.sources list.columns row

-- a list that can be shown: it is over the tables of the catalog, and shows a column
pub record CanShow (c : CatalogState) (list : ListState) : Type 0 where
  pub over : IsOver c.relations list
  pub some : 0 < length list.columns

-- a list in the order in which it is shown: that of its keys; or, if it is distinct, with each list of values once, rising
abbrev pub IsOrderedOf : List RelationState → Bool → ListState → ListState → Type 0
IsOrderedOf relations false old new =
    (new ≡ record old { rows = new.rows }) × IsSameBag new.rows old.rows × IsSorted (keys_cmp relations old.sources) new.rows
IsOrderedOf relations true old new = IsDistinctOf relations old new
