use Rattle.std.proofs.Common.{◌≡◌, ◌≤◌, List, ◌++◌, length}
use Rattle.std.specs.List.{Contains}
use Rattle.lin_hash.specs.Nodes.{entries_from}
use Rattle.lin_hash.specs.Chains.{Placed, placed_at, IsChain, last_place}
use Rattle.lin_hash.proofs.chains.before.Given as goal

abbrev pub invariant-loop-place : goal.invariant-loop-place
invariant-loop-place l =
    (before : List Placed) × (es : List Placed) × IsChain l.nodes.items l.fn.first (before ++ es) × IsChain l.nodes.items l.at es × (length es ≤ length l.nodes.items) × Contains es (placed_at l.nodes.items l.sought) × (l.behind ≡ last_place before)

abbrev pub decreases-loop-place : goal.decreases-loop-place
decreases-loop-place l = length (entries_from (length l.nodes.items) l.nodes.items l.at)
