use Rattle.plain_tables.proofs.Settings.{updates_set_the_written}
use Rattle.plain_tables.proofs.written_laws.updates_set_the_written.Goals as goal

pub returns : goal.returns
returns c = updates_set_the_written
