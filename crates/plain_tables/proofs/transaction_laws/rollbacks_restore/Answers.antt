use Rattle.plain_tables.proofs.Transactions.{restored}
use Rattle.plain_tables.proofs.transaction_laws.rollbacks_restore.Goals as goal

pub returns : goal.returns
returns c = restored
