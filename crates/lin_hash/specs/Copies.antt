-- What a block of nodes of rows shows, and its copy with it.
use Rattle.std.specs.Prelude.{ℕ, Bool, List}
use Rattle.lin_hash.specs.declared.row_block.RowBlock.{RowBlock}
use Rattle.lin_hash.specs.declared.row_node.RowNode.{RowNode}
use Rattle.lin_hash.specs.RowBlocks.{has_memory}
use Rattle.lin_hash.specs.RowNodes.{block_nodes}

-- its nodes, whether it has memory, and how many of the nodes rows use
abbrev pub shown : RowBlock → List RowNode × Bool × ℕ
shown b = (block_nodes b.nodes, has_memory b, b.used)
