use Rattle.plain_tables.proofs.Written.{selected_names_mean}
use Rattle.plain_tables.proofs.written_laws.selected_names_mean.Goals as goal

pub returns : goal.returns
returns c = selected_names_mean
