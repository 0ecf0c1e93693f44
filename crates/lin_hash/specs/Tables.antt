-- What is true of a table.
use Rattle.std.specs.Prelude.{◌^◌, ◌<◌, [], length}
use Rattle.lin_hash.specs.declared.table.Table.TheInside.{Inside}
use Rattle.lin_hash.specs.Chains.{AreHung}

-- the nodes hang on the buckets of their hashes, and links can name them
pub record IsTable (t : Inside) : Type 0 where
  pub hung : AreHung t.address.level t.address.mark t.nodes.items t.heads.items []
  pub few : length t.nodes.items < 2 ^ 32
