-- The tuples of a store, each seen as something else.
use Rattle.std.specs.Prelude.{map}
use Rattle.std.specs.FinMap.{entries, from_sorted}
use Rattle.part_raw.specs.Store.{Tuples}
use Rattle.part_raw.specs.declared.tuple_ref.TupleRef.{TupleRef}

-- the same references, each with what f makes of it and its tuple
unfoldable pub mapped : {T U : Type 0} → (TupleRef → T → U) → Tuples T → Tuples U
mapped f tuples = from_sorted (map (λ e. (e.0, f e.0 e.1)) (entries tuples))
