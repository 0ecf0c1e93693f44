use Rattle.std.proofs.Common.{length}
use Rattle.mm_relation.proofs.change.+move_cells.Given as goal

abbrev pub decreases-move_cells : goal.decreases-move_cells
decreases-move_cells l = length l.sets.now
