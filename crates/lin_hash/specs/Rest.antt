-- What a `Chain` has yet to give.
use Rattle.std.specs.Prelude.{List, length}
use Rattle.part_raw.specs.declared.tuple_ref.TupleRef.{TupleRef}
use Rattle.mm_index.specs.Bag.{with_hash}
use Rattle.lin_hash.specs.declared.chain.Chain.{Chain}
use Rattle.lin_hash.specs.Blocks.{nodes_in}
use Rattle.lin_hash.specs.Nodes.{entries_from}

-- the references with its hash that are left to visit: a chain has no more nodes than the blocks
abbrev pub chain_rest : Chain → List TupleRef
chain_rest c = with_hash c.hash (entries_from (length (nodes_in c.blocks.now)) (nodes_in c.blocks.now) c.rest)
