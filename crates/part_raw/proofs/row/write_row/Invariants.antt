use Rattle.std.proofs.Common.{◌≡◌, ℕ, ◌+◌, ◌<◌, ◌≤◌, length, get_or, None}
use Rattle.std.specs.Vec.{vec_len, vec_capacity}
use Rattle.part_raw.specs.Rows.{put_run}
use Rattle.part_raw.proofs.row.write_row.Given as goal

abbrev pub invariant-loop-value : goal.invariant-loop-value
invariant-loop-value g l = record {
  places : put_run l.block l.from l.row.items ≡ put_run l.fn.block l.from l.fn.row.items;
  long : length l.block ≡ length l.fn.block;
  fewer : length l.row.items ≤ length l.fn.row.items;
  empty : (i : ℕ) → i < length l.row.items → get_or l.block (l.from + i) None ≡ None;
  capacity : vec_capacity l.row ≡ vec_capacity l.fn.row;
}

abbrev pub decreases-loop-value : goal.decreases-loop-value
decreases-loop-value g l = vec_len l.row
