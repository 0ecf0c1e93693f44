-- What is true of nodes of rows in blocks.
use Rattle.std.specs.Prelude.{◌≡◌, ◌^◌, ◌<◌, count_by, vec_len}
use Rattle.lin_hash.specs.declared.row_nodes.RowNodes.TheInside.{Inside}
use Rattle.lin_hash.specs.RowBlocks.{is_spare}

-- the blocks that no row uses are counted, and links can name the places of all blocks
pub record AreCountedBlocks (n : Inside) : Type 0 where
  pub counted : n.spare ≡ count_by is_spare n.blocks.items
  pub few : vec_len n.blocks < 2 ^ 24
