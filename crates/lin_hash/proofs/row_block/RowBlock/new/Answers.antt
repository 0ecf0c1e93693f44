use Rattle.std.proofs.Common.{ap, ◌∙◌, replicate}
use Rattle.lin_hash.proofs.row_block.RowBlock.new.Goals as goal

pub returns-clause-unused : goal.returns-clause-unused
returns-clause-unused c = c.in_ok-new.ensures.ok ∙ ap (λ n. replicate 256 n) c.unused.ensures
