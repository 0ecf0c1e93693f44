-- What is true of the counts of a hash of rows.
use Rattle.std.specs.Prelude.{◌≡◌, ◌*◌, ◌^◌, ◌≤◌, length}
use Rattle.lin_hash.specs.declared.row_hash.RowHash.TheInside.{Inside}
use Rattle.lin_hash.specs.RowsHeld.{rows_entries, rows_buckets, rows_heads}

-- the entries are counted, and are at most twice the buckets and twice the heads, and no more than 32 bits can number
pub record AreCountedRows (h : Inside) : Type 0 where
  pub counted : h.len ≡ length (rows_entries h.table)
  pub dense : h.len ≤ 2 * rows_buckets h.table
  pub housed : h.len ≤ 2 * rows_heads h.table
  pub few : h.len ≤ 2 ^ 32
