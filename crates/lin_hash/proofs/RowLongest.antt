-- The longest chain of rows, by the buckets that they belong to.
use Rattle.std.proofs.Common.{◌≡◌, ℕ, ◌<◌, ◌≤◌, List, [], length, get_or, refl, ap, arith}
use Rattle.std.specs.List.{EachIndex, SomeIndex}
use Rattle.lin_hash.specs.declared.node.NodeLink.{NodeLink}
use Rattle.lin_hash.specs.declared.row_node.RowNode.{RowNode}
use Rattle.lin_hash.specs.Nodes.{head_at, no_link}
use Rattle.lin_hash.specs.RowNodes.{rows_of}
use Rattle.lin_hash.specs.RowChains.{AreRowsHung, RowsEndWithin, rows_walked_from}
use Rattle.lin_hash.specs.Shape.{IsLongestChain}
use Rattle.lin_hash.proofs.Longest.{longest-walked}
use Rattle.lin_hash.proofs.RowHung.{hung-short}
use Rattle.lin_hash.proofs.RowWalks.{RowsEndWithin-from_chain, row_entries_from-chain}

module _ (level mark : ℕ) (nodes : List RowNode) (heads : List NodeLink) (h : AreRowsHung level mark nodes heads []) where
  pub ends-hung : EachIndex heads (λ i. RowsEndWithin (length nodes) nodes (head_at heads i))
  ends-hung i inside =
      let number = h.linked.number in
      let within : i < length h.chains = omega (arith, number, inside) in
      RowsEndWithin-from_chain (length nodes) nodes no_link (head_at heads i) (get_or h.chains i []) (h.linked.each i within) (hung-short level mark nodes heads [] h i within)

  pub longest-hung : (buckets longest : ℕ) → buckets ≡ length heads → EachIndex heads (λ i. rows_walked_from nodes (head_at heads i) ≤ longest) → SomeIndex heads (λ i. rows_walked_from nodes (head_at heads i) ≡ longest) → IsLongestChain buckets (rows_of nodes) longest
  longest-hung buckets longest same each some =
      longest-walked _ level mark heads (rows_of nodes) h (rows_of nodes) (λ i. rows_walked_from nodes (head_at heads i)) (λ i. refl)
      (λ i inside. ap length (row_entries_from-chain (length nodes) nodes no_link (head_at heads i) (get_or h.chains i []) (h.linked.each i inside) (hung-short level mark nodes heads [] h i inside)))
      buckets longest same each some
