-- A row of a table beside what is shown of it.
use Rattle.std.specs.Prelude.{◌≡◌, ℕ, List, [], ◌∷◌, Some, IsSome, All, refl, map, slice_get}
use Rattle.std.specs.Coded.{Coded, code_by, coded×, coded_ℕ, coded_list}
use Rattle.std.specs.FinMap as finite
use Rattle.part_raw.specs.declared.tuple_ref.TupleRef.{TupleRef}
use Rattle.plain_tables.specs.declared.numbers.Place.{Place}
use Rattle.mm_relation.specs.State.{RelationState, IsCurrent, linked_keys}
use Rattle.temp_list.specs.Lists.{ListState, HasPlace}
use Rattle.project_hash.specs.Shown.{ShownState, state_of}

-- rows of a table as a list that shows these columns of them
abbrev pub list_of_table : ℕ → List TupleRef → List Place → ListState
list_of_table table rows columns = record { sources = table ∷ []; rows = map (λ r. r ∷ []) rows; columns = columns }

-- one of relations, its number among them, and the columns of it that are shown
pub record TableState : Type 0 where
  pub relations : List RelationState
  pub table : ℕ
  pub relation : RelationState
  pub places : List Place

abbrev pub table_code : Coded RelationState → Coded Place → Coded TableState
table_code relation place =
    code_by (List RelationState × (ℕ × (RelationState × List Place)))
    (coded× (coded_list relation) (coded× coded_ℕ (coded× relation (coded_list place))))
    (λ t. (t.relations, (t.table, (t.relation, t.places))))
    (λ p. record { relations = p.0; table = p.1.0; relation = p.1.1.0; places = p.1.1.1 }) (λ _. refl)

-- a row of the table, with the values that are shown of it
abbrev pub row_state : TableState → TupleRef → ShownState
row_state t r = state_of t.relations (list_of_table t.table [] t.places) (r ∷ [])

-- the columns can be read of each row
pub record CanRead (t : TableState) : Type 0 where
  pub lent : slice_get t.relations t.table ≡ Some t.relation
  pub current : IsCurrent (linked_keys t.relation.targets t.relations) t.relation
  pub places : All (HasPlace t.relations (t.table ∷ [])) t.places

-- a row is under the reference, of which the columns can be read
pub record IsRowOf (t : TableState) (r : TupleRef) : Type 0 where
  pub can_read : CanRead t
  pub held : IsSome (finite.get t.relation.rows r)
