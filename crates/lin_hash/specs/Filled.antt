-- What is true of nodes in blocks.
use Rattle.std.specs.Prelude.{◌*◌, ◌^◌, ◌<◌, ◌≤◌, vec_len}
use Rattle.lin_hash.specs.declared.nodes.Nodes.TheInside.{Inside}

-- the blocks have the nodes in use, links can name these, and no place of a block needs more than 32 bits
pub record IsFilled (n : Inside) : Type 0 where
  pub within : n.len ≤ 256 * vec_len n.blocks
  pub few : n.len < 2 ^ 32
  pub few_blocks : vec_len n.blocks ≤ 2 ^ 24
