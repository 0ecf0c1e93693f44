use Rattle.plain_tables.proofs.Changes.{own_rows_change}
use Rattle.plain_tables.proofs.resolved_laws.own_rows_change.Goals as goal

pub returns : goal.returns
returns c = own_rows_change
