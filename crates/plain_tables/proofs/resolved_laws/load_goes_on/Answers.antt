use Rattle.plain_tables.proofs.Loads.{load_goes_on}
use Rattle.plain_tables.proofs.resolved_laws.load_goes_on.Goals as goal

pub returns : goal.returns
returns c = load_goes_on
