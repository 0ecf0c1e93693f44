use Rattle.std.proofs.Common.{◌≡◌, ◌+◌, length}
use Rattle.lin_hash.specs.Walks.{EndsWithin, walked_from}
use Rattle.lin_hash.proofs.chains.walked.Given as goal

abbrev pub invariant-loop-place : goal.invariant-loop-place
invariant-loop-place l =
    EndsWithin (length l.nodes.items) l.nodes.items l.rest × (l.count + walked_from l.nodes.items l.rest ≡ walked_from l.nodes.items l.fn.first)

abbrev pub decreases-loop-place : goal.decreases-loop-place
decreases-loop-place l = walked_from l.nodes.items l.rest
