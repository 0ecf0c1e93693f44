use Rattle.std.proofs.Common.{sym, ◌∙◌}
use Rattle.std.proofs.lemmas.List.{get_or-replicate}
use Rattle.lin_hash.specs.RowNodes.{unused_node}
use Rattle.lin_hash.proofs.row_block.RowBlock.get.Goals as goal

pub returns-in-None : goal.returns-in-None
returns-in-None c = rw c.in-None.is (c.unused.ensures ∙ sym (get_or-replicate 256 c.args.at unused_node unused_node c.requires))
