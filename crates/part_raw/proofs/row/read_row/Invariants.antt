use Rattle.std.proofs.Common.{◌≡◌, map, take, Some}
use Rattle.std.specs.Vec.{vec_capacity}
use Rattle.part_raw.specs.Rows.{window, clear_run}
use Rattle.part_raw.proofs.row.read_row.Given as goal

abbrev pub invariant-loop-i : goal.invariant-loop-i
invariant-loop-i g l = record {
  places : l.block ≡ clear_run l.fn.block l.from l.i;
  row : map Some l.row.items ≡ take l.i (window l.from l.width l.fn.block);
  capacity : vec_capacity l.row ≡ vec_capacity l.fn.row;
}
