use Rattle.std.proofs.Common.{◌≡◌, take}
use Rattle.part_raw.specs.Rows.{put_run}
use Rattle.part_raw.proofs.copying.copy_row.Given as goal

abbrev pub invariant-loop-i : goal.invariant-loop-i
invariant-loop-i g l = l.block ≡ put_run l.fn.block l.from (take l.i l.row)
