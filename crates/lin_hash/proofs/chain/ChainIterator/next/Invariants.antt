use Rattle.std.proofs.Common.{◌≡◌, length}
use Rattle.mm_index.specs.Bag.{with_hash}
use Rattle.lin_hash.specs.Blocks.{nodes_in}
use Rattle.lin_hash.specs.Nodes.{entries_from}
use Rattle.lin_hash.specs.Rest.{chain_rest}
use Rattle.lin_hash.specs.Walks.{EndsWithin}
use Rattle.lin_hash.proofs.chain.ChainIterator.next.Given as goal

abbrev pub invariant-loop-place : goal.invariant-loop-place
invariant-loop-place l = record {
  same : l.self ≡ l.fn.self;
  ends : EndsWithin (length (nodes_in l.fn.self.blocks.now)) (nodes_in l.fn.self.blocks.now) l.rest;
  left : with_hash l.fn.self.hash (entries_from (length (nodes_in l.fn.self.blocks.now)) (nodes_in l.fn.self.blocks.now) l.rest) ≡ chain_rest l.fn.self;
}

abbrev pub decreases-loop-place : goal.decreases-loop-place
decreases-loop-place l = length (entries_from (length (nodes_in l.fn.self.blocks.now)) (nodes_in l.fn.self.blocks.now) l.rest)
