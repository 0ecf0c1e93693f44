use Rattle.std.proofs.Common.{length}
use Rattle.mm_csv.specs.BlockReading.{columns_of}
use Rattle.mm_csv.specs.FrontRecords.{BeginsWithRows}
use Rattle.mm_csv.proofs.front.front_rows.Given as goal

abbrev pub invariant-loop-row : goal.invariant-loop-row
invariant-loop-row l = BeginsWithRows (columns_of l.layout) l.fn.text l.rows l.left

abbrev pub decreases-loop-row : goal.decreases-loop-row
decreases-loop-row l = length l.left
