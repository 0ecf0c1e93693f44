use Rattle.std.proofs.Common.{length}
use Rattle.ttree.proofs.build.+build_child.Given as goal

abbrev pub decreases-build_child : goal.decreases-build_child
decreases-build_child g l = length l.refs.now
