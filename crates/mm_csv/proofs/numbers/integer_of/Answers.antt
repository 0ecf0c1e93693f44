use Rattle.mm_csv.proofs.BlockLaws.{integer-is}
use Rattle.mm_csv.proofs.numbers.integer_of.Goals as goal

pub returns : goal.returns
returns c = integer-is c.args.field.now c.integer.result c.integer.ensures
