use Rattle.std.proofs.Common.{◌≡◌, ◌≤◌, ◌++◌, false, List, max, vec_len, vec_capacity}
use Rattle.std.specs.List.{All}
use Rattle.lin_hash.specs.declared.row_block.RowBlock.{RowBlock}
use Rattle.lin_hash.specs.RowBlocks.{has_memory}
use Rattle.lin_hash.proofs.row_nodes.lengthen.Given as goal

abbrev pub invariant-loop : goal.invariant-loop
invariant-loop l = record {
  blocks : (added : List RowBlock) × (l.blocks.items ≡ l.fn.blocks.items ++ added) × All (λ b. has_memory b ≡ false) added;
  capacity : vec_capacity l.blocks ≡ vec_capacity l.fn.blocks;
  counted : vec_len l.blocks ≡ l.counter;
  few : vec_len l.blocks ≤ max (vec_len l.fn.blocks) l.wanted;
}
