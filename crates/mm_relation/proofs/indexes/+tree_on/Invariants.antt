use Rattle.std.proofs.Common.{length}
use Rattle.mm_relation.proofs.indexes.+tree_on.Given as goal

abbrev pub decreases-tree_on : goal.decreases-tree_on
decreases-tree_on l = length l.indexes.now
