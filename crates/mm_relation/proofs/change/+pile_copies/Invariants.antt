use Rattle.std.proofs.Common.{length}
use Rattle.mm_relation.proofs.change.+pile_copies.Given as goal

abbrev pub decreases-pile_copies : goal.decreases-pile_copies
decreases-pile_copies l = length l.sets.now
