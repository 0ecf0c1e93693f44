use Rattle.plain_tables.proofs.Headings.{shown_fit_headings}
use Rattle.plain_tables.proofs.resolved_laws.shown_rows_fit_their_headings.Goals as goal

pub returns : goal.returns
returns c = shown_fit_headings
