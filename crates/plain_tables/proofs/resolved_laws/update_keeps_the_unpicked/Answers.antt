use Rattle.plain_tables.proofs.Changes.{update_keeps_unpicked}
use Rattle.plain_tables.proofs.resolved_laws.update_keeps_the_unpicked.Goals as goal

pub returns : goal.returns
returns c = update_keeps_unpicked
