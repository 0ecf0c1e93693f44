-- What a list of rows of references is seen as, and what is read of it through the relations that are lent.
use Rattle.std.specs.Prelude.{◌≡◌, ℕ, ◌<◌, List, Option, Some, IsSome, refl, length, map, slice_get, zip}
use Rattle.std.specs.List.{All}
use Rattle.std.specs.Coded.{Coded, code_by, coded×, coded_ℕ, coded_list}
use Rattle.std.specs.Option.{option_and_then, option_map, option_cmp}
use Rattle.std.specs.Ordering.{on}
use Rattle.std.specs.Cmp.Lexicographic.{slice_cmp}
use Rattle.std.specs.declared.cmp.Ordering.{Ordering}
use Rattle.std.specs.FinMap as finite
use Rattle.part_raw.specs.TupleRefs.{ref_code}
use Rattle.part_raw.specs.declared.tuple_ref.TupleRef.{TupleRef}
use Rattle.plain_tables.specs.declared.value.Value.{Value}
use Rattle.plain_tables.specs.declared.numbers.Place.{Place}
use Rattle.plain_tables.specs.Values.{value_cmp}
use Rattle.mm_relation.specs.Reading.{key_at}
use Rattle.mm_relation.specs.State.{RelationState}
use Rattle.temp_list.specs.Reading.{or_null, value_in}

-- the number of each source's table; the rows, each with a reference for each source; the columns that are shown
pub record ListState : Type 0 where
  pub sources : List ℕ
  pub rows : List (List TupleRef)
  pub columns : List Place

abbrev pub list_code : Coded Place → Coded ListState
list_code place =
    code_by (List ℕ × (List (List TupleRef) × List Place))
    (coded× (coded_list coded_ℕ) (coded× (coded_list (coded_list ref_code)) (coded_list place)))
    (λ l. (l.sources, (l.rows, l.columns)))
    (λ p. record { sources = p.0; rows = p.1.0; columns = p.1.1 }) (λ _. refl)

-- the relation of a source
abbrev pub relation_of : List RelationState → List ℕ → ℕ → Option RelationState
relation_of relations sources source = option_and_then (slice_get relations) (slice_get sources source)

-- the value at a place of a row; null where there is none to read
abbrev pub value_of : List RelationState → List ℕ → List TupleRef → Place → Value
value_of relations sources row place =
    or_null (option_and_then (λ s. option_map (value_in relations s place.column.0) (slice_get row place.source)) (relation_of relations sources place.source))

-- a place is there: a column of the relation of one of the sources
abbrev pub HasPlace : List RelationState → List ℕ → Place → Type 0
HasPlace relations sources place =
    (s : RelationState) × (relation_of relations sources place.source ≡ Some s) × (place.column.0 < length s.schema.columns)

-- a row has a reference for each source, which its relation holds
pub record IsRowOver (relations : List RelationState) (sources : List ℕ) (row : List TupleRef) : Type 0 where
  pub width : length row ≡ length sources
  pub held : (source : ℕ) (s : RelationState) (r : TupleRef) → relation_of relations sources source ≡ Some s → slice_get row source ≡ Some r → IsSome (finite.get s.rows r)

-- The list is over these relations: each source is one of them, each row is over them, and each column that is shown is there.
pub record IsOver (relations : List RelationState) (list : ListState) : Type 0 where
  pub sources : All (λ n. n < length relations) list.sources
  pub rows : All (IsRowOver relations list.sources) list.rows
  pub columns : All (HasPlace relations list.sources) list.columns

-- the key of the row that a reference into a table leads to
abbrev pub key_in : List RelationState → ℕ → TupleRef → Option Value
key_in relations table r = option_and_then (λ s. key_at s.rows r) (slice_get relations table)

-- the keys of the rows that a row refers to, the first source's first
abbrev pub row_keys : List RelationState → List ℕ → List TupleRef → List (Option Value)
row_keys relations sources row = map (λ p. key_in relations p.0 p.1) (zip sources row)

-- rows of one table in the order of their keys
abbrev pub key_cmp : RelationState → TupleRef → TupleRef → Ordering
key_cmp s = on (key_at s.rows) (option_cmp value_cmp)

-- rows in the order of their keys
abbrev pub keys_cmp : List RelationState → List ℕ → List TupleRef → List TupleRef → Ordering
keys_cmp relations sources = on (row_keys relations sources) (slice_cmp (option_cmp value_cmp))
