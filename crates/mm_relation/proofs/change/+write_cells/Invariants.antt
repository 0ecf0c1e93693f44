use Rattle.std.proofs.Common.{length}
use Rattle.mm_relation.proofs.change.+write_cells.Given as goal

abbrev pub decreases-write_cells : goal.decreases-write_cells
decreases-write_cells l = length l.sets.now
