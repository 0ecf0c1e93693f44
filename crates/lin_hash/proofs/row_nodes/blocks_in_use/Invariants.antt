use Rattle.std.proofs.Common.{◌≡◌, ◌<◌, ◌≤◌, ℕ, false, length, get_or}
use Rattle.lin_hash.specs.declared.row_block.RowBlock.{RowBlock}
use Rattle.lin_hash.specs.RowBlocks.{has_memory}
use Rattle.lin_hash.proofs.row_nodes.blocks_in_use.Given as goal

abbrev pub invariant-loop-count : goal.invariant-loop-count
invariant-loop-count l = record {
  within : l.count ≤ length l.blocks;
  rest : (k : ℕ) (d : RowBlock) → l.count ≤ k → k < length l.blocks → has_memory (get_or l.blocks k d) ≡ false;
}

abbrev pub decreases-loop-count : goal.decreases-loop-count
decreases-loop-count l = l.count
