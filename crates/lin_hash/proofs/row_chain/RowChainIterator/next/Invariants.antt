use Rattle.std.proofs.Common.{◌≡◌, length}
use Rattle.mm_index.specs.Bag.{with_hash}
use Rattle.lin_hash.specs.RowBlocks.{row_nodes_in}
use Rattle.lin_hash.specs.RowChains.{RowsEndWithin, row_entries_from}
use Rattle.lin_hash.specs.RowRest.{row_chain_rest}
use Rattle.lin_hash.proofs.row_chain.RowChainIterator.next.Given as goal

abbrev pub invariant-loop-place : goal.invariant-loop-place
invariant-loop-place l = record {
  same : l.self ≡ l.fn.self;
  ends : RowsEndWithin (length (row_nodes_in l.fn.self.blocks.now)) (row_nodes_in l.fn.self.blocks.now) l.rest;
  left : with_hash l.fn.self.hash (row_entries_from (length (row_nodes_in l.fn.self.blocks.now)) (row_nodes_in l.fn.self.blocks.now) l.rest) ≡ row_chain_rest l.fn.self;
}

abbrev pub decreases-loop-place : goal.decreases-loop-place
decreases-loop-place l = length (row_entries_from (length (row_nodes_in l.fn.self.blocks.now)) (row_nodes_in l.fn.self.blocks.now) l.rest)
