use Rattle.mm_csv.proofs.PlainFields.{name-plain}
use Rattle.mm_csv.proofs.laws.names_need_no_quotes.Goals as goal

pub returns : goal.returns
returns c = name-plain
