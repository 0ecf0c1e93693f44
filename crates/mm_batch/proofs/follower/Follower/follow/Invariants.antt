use Rattle.std.proofs.Common.{length}
use Rattle.mm_batch.proofs.follower.Follower.follow.Given as goal

abbrev pub decreases-loop-rest : goal.decreases-loop-rest
decreases-loop-rest l = length l.rest
