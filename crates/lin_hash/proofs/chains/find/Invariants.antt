use Rattle.std.proofs.Common.{◌≡◌, ◌≤◌, List, ◌++◌, length, map}
use Rattle.std.specs.List.{Contains}
use Rattle.lin_hash.specs.Nodes.{entries_from}
use Rattle.lin_hash.specs.Chains.{Placed, entry_in, IsChain, last_place}
use Rattle.lin_hash.proofs.chains.find.Given as goal

abbrev pub invariant-loop-place : goal.invariant-loop-place
invariant-loop-place l =
    (before : List Placed) × (es : List Placed) × IsChain l.nodes.items l.fn.first (before ++ es) × IsChain l.nodes.items l.at es × (length es ≤ length l.nodes.items) × Contains (map entry_in es) (l.hash, l.r) × (l.behind ≡ last_place before)

abbrev pub decreases-loop-place : goal.decreases-loop-place
decreases-loop-place l = length (entries_from (length l.nodes.items) l.nodes.items l.at)
