use Rattle.plain_tables.proofs.Transactions.{kept}
use Rattle.plain_tables.proofs.transaction_laws.commits_keep.Goals as goal

pub returns : goal.returns
returns c = kept
