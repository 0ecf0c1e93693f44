-- What a list of these parts is seen as, and what each list keeps to.
use Rattle.std.specs.Prelude.{◌≡◌, ◌<◌, List, length, map}
use Rattle.std.specs.List.{All}
use Rattle.part_raw.specs.declared.tuple_ref.TupleRef.{TupleRef}
use Rattle.plain_tables.specs.declared.numbers.Place.{Place}
use Rattle.plain_tables.specs.declared.numbers.TableNumber.{TableNumber}
use Rattle.smallvec.specs.SmallVec.{SmallVec}
use Rattle.std.specs.Ordering.{on}
use Rattle.std.specs.declared.cmp.Ordering.{Ordering}
use Rattle.mm_relation.specs.State.{RelationState}
use Rattle.temp_list.specs.Lists.{ListState, keys_cmp}

-- rows as they are kept, as they are seen
abbrev pub lists : List (SmallVec TupleRef) → List (List TupleRef)
lists rows = map (λ row. row.items) rows

abbrev pub list_of : List TableNumber → List (SmallVec TupleRef) → List Place → ListState
list_of sources rows columns = record { sources = map (λ t. t.0) sources; rows = lists rows; columns = columns }

-- a list has a source, and each of its rows a reference for each source
pub record IsEven (list : ListState) : Type 0 where
  pub some : 0 < length list.sources
  pub rows : All (λ row. length row ≡ length list.sources) list.rows

-- rows as they are kept, in the order of their keys
abbrev pub listed_cmp : List RelationState → List TableNumber → SmallVec TupleRef → SmallVec TupleRef → Ordering
listed_cmp relations sources = on (λ row. row.items) (keys_cmp relations (map (λ t. t.0) sources))

-- each source is one of the relations
abbrev pub AreTables : List RelationState → List TableNumber → Type 0
AreTables relations sources = All (λ t. t.0 < length relations) sources
