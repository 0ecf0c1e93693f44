use Rattle.std.proofs.Common.{◌≡◌, ◌<◌, ◌/◌, ◌%◌, ℕ, length, get_or, sym, ap, ◌∙◌, arith}
use Rattle.lin_hash.specs.declared.block.Block.{Block}
use Rattle.lin_hash.specs.declared.node.Node.{Node}
use Rattle.lin_hash.proofs.InBlocks.{length-nodes_in, node_in_block}
use Rattle.lin_hash.proofs.blocks.node_in.Goals as goal

pub bounds-blocks-place : goal.bounds-blocks-place
bounds-blocks-place c = let long = length-nodes_in c.args.blocks.now in omega (arith, long, c.requires)

abbrev no_node : Node
no_node = record { hash = 0; reference = record { number = 0 }; next = record { place = 0 } }

pub returns : goal.returns
returns c =
    let bs = c.args.blocks.now in
    let i : ℕ = c.args.place / 256 in
    let j : ℕ = c.args.place % 256 in
    let b : Block = c.index-blocks-place.result in
    let long = length-nodes_in bs in
    let inside : c.args.place / 256 < length c.args.blocks.now = omega (arith, long, c.requires) in
    let within : c.args.place % 256 < 256 = omega arith in
    let is : b ≡ get_or bs i b = c.index-blocks-place.is in
    let there : get_or (get_or bs i b).nodes.value j no_node ≡ get_or b.nodes.value j no_node = ap (λ (e : Block). get_or e.nodes.value j no_node) (sym is) in
    ap (λ ns. get_or ns j no_node) c.deref.ensures ∙ there ∙ sym (node_in_block bs i j c.args.place b no_node inside within (omega arith) is)
