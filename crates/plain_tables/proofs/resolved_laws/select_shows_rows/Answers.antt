use Rattle.plain_tables.proofs.Headings.{selects_rows}
use Rattle.plain_tables.proofs.resolved_laws.select_shows_rows.Goals as goal

pub returns : goal.returns
returns c = selects_rows
