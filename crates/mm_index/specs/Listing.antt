-- Lists of the references under which a store holds its tuples.
use Rattle.std.specs.Prelude.{◌≢◌, List, IsSome, All, AllPairs, Contains}
use Rattle.std.specs.FinMap as map
use Rattle.part_raw.specs.declared.tuple_ref.TupleRef.{TupleRef}
use Rattle.part_raw.specs.Store.{Tuples}

-- the list has each reference that the store holds, once, and no other
pub record IsListing {T : Type 0} (tuples : Tuples T) (list : List TupleRef) : Type 0 where
  pub distinct : AllPairs (λ a b. a ≢ b) list
  pub held : All (λ r. IsSome (map.get tuples r)) list
  pub listed : (r : TupleRef) → IsSome (map.get tuples r) → Contains list r
