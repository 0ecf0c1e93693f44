use Rattle.plain_tables.proofs.Headings.{names_have_headings}
use Rattle.plain_tables.proofs.command_laws.named_columns_have_headings.Goals as goal

pub returns : goal.returns
returns c = names_have_headings
