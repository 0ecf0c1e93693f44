use Rattle.std.proofs.Common.{sym, ◌∙◌, arith}
use Rattle.lin_hash.specs.RowNodes.{unused_node}
use Rattle.lin_hash.proofs.InRowBlocks.{length-row_nodes_in, at-place}
use Rattle.lin_hash.proofs.row_nodes.row_node_in.Goals as goal

pub bounds-blocks-place : goal.bounds-blocks-place
bounds-blocks-place c = let long = length-row_nodes_in c.args.blocks.now in omega (arith, long, c.requires)

pub returns : goal.returns
returns c = c.get.ensures ∙ sym (at-place c.args.blocks.now c.args.place c.index-blocks-place.result c.index-blocks-place.is c.requires unused_node)
