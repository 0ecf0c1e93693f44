use Rattle.plain_tables.proofs.Alike.{done_alike}
use Rattle.plain_tables.proofs.resolved_laws.done_without_indexes.Goals as goal

pub returns : goal.returns
returns c = done_alike
