use Rattle.plain_statements.proofs.Schemas.{resolution-stays}
use Rattle.plain_statements.proofs.laws.resolution_stays.Goals as goal

pub returns : goal.returns
returns c = resolution-stays
