use Rattle.std.proofs.Common.{◌≡◌, ◌+◌, length}
use Rattle.lin_hash.specs.RowChains.{RowsEndWithin, rows_walked_from}
use Rattle.lin_hash.proofs.row_chains.walked.Given as goal

abbrev pub invariant-loop-place : goal.invariant-loop-place
invariant-loop-place l =
    RowsEndWithin (length l.nodes.items) l.nodes.items l.rest × (l.count + rows_walked_from l.nodes.items l.rest ≡ rows_walked_from l.nodes.items l.fn.first)

abbrev pub decreases-loop-place : goal.decreases-loop-place
decreases-loop-place l = rows_walked_from l.nodes.items l.rest
