use Rattle.mm_csv.proofs.PlainFields.{integer-plain}
use Rattle.mm_csv.proofs.laws.integers_need_no_quotes.Goals as goal

pub returns : goal.returns
returns c = integer-plain
