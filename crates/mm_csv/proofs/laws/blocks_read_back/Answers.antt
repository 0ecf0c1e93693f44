use Rattle.mm_csv.proofs.BlockLaws.{blocks-back}
use Rattle.mm_csv.proofs.laws.blocks_read_back.Goals as goal

pub returns : goal.returns
returns c = blocks-back
