-- What a `Chain` has yet to give.
use Rattle.std.specs.Prelude.{List}
use Rattle.part_raw.specs.declared.tuple_ref.TupleRef.{TupleRef}
use Rattle.mm_index.specs.Bag.{with_hash}
use Rattle.mm_index.specs.declared.plain_bag.Chain.{Chain}

-- the references with its hash that are left to visit
abbrev pub chain_rest : Chain → List TupleRef
chain_rest c = with_hash c.hash c.rest.now
