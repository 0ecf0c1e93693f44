use Rattle.plain_tables.proofs.Changes.{deletes_the_picked}
use Rattle.plain_tables.proofs.resolved_laws.delete_takes_the_picked.Goals as goal

pub returns : goal.returns
returns c = deletes_the_picked
