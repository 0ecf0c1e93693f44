use Rattle.plain_tables.proofs.Loads.{loads_are_told}
use Rattle.plain_tables.proofs.resolved_laws.loads_are_told.Goals as goal

pub returns : goal.returns
returns c = loads_are_told
