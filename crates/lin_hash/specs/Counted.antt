-- What is true of the counts of an index.
use Rattle.std.specs.Prelude.{◌≡◌, ◌+◌, ◌*◌, ◌^◌, ◌<◌, ◌≤◌, length}
use Rattle.lin_hash.specs.declared.index.LinHash.TheInside.{Inside}
use Rattle.lin_hash.specs.Held.{table_entries, table_nodes, table_heads, table_buckets}

-- the entries are counted, and are at most twice the buckets and twice the heads; there is memory for the nodes in use
-- and for the spare ones, and links can name them all
pub record IsCounted (h : Inside) : Type 0 where
  pub counted : h.len ≡ length (table_entries h.table)
  pub dense : h.len ≤ 2 * table_buckets h.table
  pub housed : h.len ≤ 2 * table_heads h.table
  pub noded : h.len + h.spares ≤ table_nodes h.table
  pub few : h.len + h.spares < 2 ^ 32
