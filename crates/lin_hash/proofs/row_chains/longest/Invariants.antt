use Rattle.std.proofs.Common.{◌≡◌, ◌<◌, ◌≤◌, ℕ, ◌⊎◌}
use Rattle.lin_hash.specs.Nodes.{head_at}
use Rattle.lin_hash.specs.RowChains.{rows_walked_from}
use Rattle.std.specs.List.{SomeIndex}
use Rattle.lin_hash.proofs.row_chains.longest.Given as goal

abbrev pub invariant-loop-head : goal.invariant-loop-head
invariant-loop-head l =
    ((i : ℕ) → i < l.head-index → rows_walked_from l.nodes.items (head_at l.heads i) ≤ l.longest) × ((l.longest ≡ 0) ⊎ SomeIndex l.heads (λ i. rows_walked_from l.nodes.items (head_at l.heads i) ≡ l.longest))
