use Rattle.std.proofs.Common.{◌≡◌, List, length}
use Rattle.lin_hash.specs.Nodes.{entries_of, entries_from}
use Rattle.lin_hash.specs.Chains.{Placed, IsChain, AreHung}
use Rattle.lin_hash.proofs.chains.link_from.Given as goal

abbrev pub invariant-loop-place : goal.invariant-loop-place
invariant-loop-place l = record {
  loose : (loose : List Placed) × IsChain l.nodes.items l.rest loose × AreHung l.address.level l.address.mark l.nodes.items l.heads loose;
  entries : entries_of l.nodes.items ≡ entries_of l.fn.nodes.items;
  nodes_len : length l.nodes.items ≡ length l.fn.nodes.items;
  heads_len : length l.heads ≡ length l.fn.heads;
  memory : l.nodes.memory ≡ l.fn.nodes.memory;
  listed : l.nodes.listed ≡ l.fn.nodes.listed;
}

abbrev pub decreases-loop-place : goal.decreases-loop-place
decreases-loop-place l = length (entries_from (length l.nodes.items) l.nodes.items l.rest)
