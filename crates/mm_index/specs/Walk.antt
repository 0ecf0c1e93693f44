-- What a `Walk` has yet to give.
use Rattle.std.specs.Prelude.{List}
use Rattle.part_raw.specs.declared.tuple_ref.TupleRef.{TupleRef}
use Rattle.mm_index.specs.declared.sorted_vec.Walk.{Walk}

-- the references that are left to visit, in order
abbrev pub rest_of : Walk → List TupleRef
rest_of w = w.rest.now
