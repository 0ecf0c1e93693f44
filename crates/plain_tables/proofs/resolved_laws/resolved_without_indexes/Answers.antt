use Rattle.plain_tables.proofs.Alike.{resolved_alike}
use Rattle.plain_tables.proofs.resolved_laws.resolved_without_indexes.Goals as goal

pub returns : goal.returns
returns c = resolved_alike
