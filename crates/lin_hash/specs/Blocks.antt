-- Nodes in blocks.
use Rattle.std.specs.Prelude.{List, [], ◌∷◌, ◌++◌}
use Rattle.lin_hash.specs.declared.block.Block.{Block}
use Rattle.lin_hash.specs.declared.node.Node.{Node}

-- the nodes of the blocks, those of one block after those of another
abbrev pub nodes_in : List Block → List Node
nodes_in [] = []
nodes_in (b ∷ bs) = b.nodes.value ++ nodes_in bs
