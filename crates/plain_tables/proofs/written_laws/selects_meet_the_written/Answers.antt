use Rattle.plain_tables.proofs.Written.{selects_meet_the_written}
use Rattle.plain_tables.proofs.written_laws.selects_meet_the_written.Goals as goal

pub returns : goal.returns
returns c = selects_meet_the_written
