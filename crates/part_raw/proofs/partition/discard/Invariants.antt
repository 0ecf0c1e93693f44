use Rattle.std.proofs.Common.{count_by, is_some}
use Rattle.part_raw.specs.Rows.{IsLaid, rows_in}
use Rattle.part_raw.specs.Layout.{IsPartition}
use Rattle.part_raw.proofs.partition.discard.Given as goal

abbrev pub invariant-loop-slot : goal.invariant-loop-slot
invariant-loop-slot g l = record {
  laid : IsLaid l.width l.block;
  bits : IsPartition l.held.words (rows_in l.width l.block);
}

abbrev pub decreases-loop-slot : goal.decreases-loop-slot
decreases-loop-slot g l = count_by is_some (rows_in l.width l.block)
