use Rattle.std.proofs.Common.{◌≡◌, ◌≤◌, ◌++◌, List, max, vec_len, vec_capacity}
use Rattle.lin_hash.specs.declared.node.Node.{Node}
use Rattle.lin_hash.specs.Blocks.{nodes_in}
use Rattle.lin_hash.proofs.blocks.add_blocks.Given as goal

abbrev pub invariant-loop : goal.invariant-loop
invariant-loop l = record {
  nodes : (added : List Node) × (nodes_in l.blocks.items ≡ nodes_in l.fn.blocks.items ++ added);
  capacity : vec_capacity l.blocks ≡ vec_capacity l.fn.blocks;
  counted : vec_len l.blocks ≡ l.counter;
  more : vec_len l.fn.blocks ≤ vec_len l.blocks;
  few : vec_len l.blocks ≤ max (vec_len l.fn.blocks) l.wanted;
}
