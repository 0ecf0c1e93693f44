use Rattle.std.proofs.Common.{◌≡◌}
use Rattle.part_raw.specs.Rows.{clear_run}
use Rattle.part_raw.proofs.row.drop_row.Given as goal

abbrev pub invariant-loop-i : goal.invariant-loop-i
invariant-loop-i g l = l.block ≡ clear_run l.fn.block l.from l.i
