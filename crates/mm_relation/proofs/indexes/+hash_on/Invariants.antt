use Rattle.std.proofs.Common.{length}
use Rattle.mm_relation.proofs.indexes.+hash_on.Given as goal

abbrev pub decreases-hash_on : goal.decreases-hash_on
decreases-hash_on l = length l.indexes.now
