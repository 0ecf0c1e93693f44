-- What a `RowChain` has yet to give.
use Rattle.std.specs.Prelude.{List, length}
use Rattle.part_raw.specs.declared.tuple_ref.TupleRef.{TupleRef}
use Rattle.mm_index.specs.Bag.{with_hash}
use Rattle.lin_hash.specs.declared.row_chain.RowChain.{RowChain}
use Rattle.lin_hash.specs.RowBlocks.{row_nodes_in}
use Rattle.lin_hash.specs.RowChains.{row_entries_from}

-- the rows with its hash that are left to visit: a chain has no more nodes than the blocks
abbrev pub row_chain_rest : RowChain → List TupleRef
row_chain_rest c = with_hash c.hash (row_entries_from (length (row_nodes_in c.blocks.now)) (row_nodes_in c.blocks.now) c.rest)
