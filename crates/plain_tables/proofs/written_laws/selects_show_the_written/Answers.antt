use Rattle.plain_tables.proofs.Settings.{selects_show_the_written}
use Rattle.plain_tables.proofs.written_laws.selects_show_the_written.Goals as goal

pub returns : goal.returns
returns c = selects_show_the_written
