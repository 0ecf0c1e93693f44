-- Rows of one table beside their keys.
use Rattle.std.specs.Prelude.{◌≡◌, ◌*◌, ◌≤◌, List, [], map}
use Rattle.std.specs.List.{All}
use Rattle.std.specs.Vec.{vec_capacity}
use Rattle.part_raw.specs.declared.tuple_ref.TupleRef.{TupleRef}
use Rattle.mm_relation.specs.State.{RelationState}
use Rattle.temp_list.specs.Leading.{HasIntegerKey}
use Rattle.temp_list.specs.declared.keyed.KeyedRow.{KeyedRow}
use Rattle.temp_list.specs.declared.keyed.KeySorter.{KeySorter}

-- These are the rows, each beside its key, which is an integer.
pub record AreKeyed (s : RelationState) (rows : List TupleRef) (keyed : List KeyedRow) : Type 0 where
  pub same : map (λ one. one.row) keyed ≡ rows
  pub keys : All (λ one. HasIntegerKey s one.row one.key) keyed

-- It holds no rows, and takes at most 64 KiB: a reference beside its key is sixteen bytes.
pub record IsSmall (sorter : KeySorter) : Type 0 where
  pub none : sorter.keyed.items ≡ []
  pub most : 16 * vec_capacity sorter.keyed ≤ 65536
