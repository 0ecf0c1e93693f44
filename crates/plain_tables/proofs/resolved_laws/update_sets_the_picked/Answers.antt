use Rattle.plain_tables.proofs.Changes.{update_sets_picked}
use Rattle.plain_tables.proofs.resolved_laws.update_sets_the_picked.Goals as goal

pub returns : goal.returns
returns c = update_sets_picked
