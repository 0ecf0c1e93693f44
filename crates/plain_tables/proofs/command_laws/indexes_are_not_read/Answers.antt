use Rattle.plain_tables.proofs.Alike.{indexes_are_not_read}
use Rattle.plain_tables.proofs.command_laws.indexes_are_not_read.Goals as goal

pub returns : goal.returns
returns c = indexes_are_not_read
