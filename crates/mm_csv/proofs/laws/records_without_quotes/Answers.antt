use Rattle.mm_csv.proofs.PlainFields.{record-plain}
use Rattle.mm_csv.proofs.laws.records_without_quotes.Goals as goal

pub returns : goal.returns
returns c = record-plain
