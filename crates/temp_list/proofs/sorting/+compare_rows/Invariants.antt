use Rattle.std.proofs.Common.{length}
use Rattle.temp_list.proofs.sorting.+compare_rows.Given as goal

abbrev pub decreases-compare_rows : goal.decreases-compare_rows
decreases-compare_rows g l = length l.sources.now
