use Rattle.plain_tables.proofs.ResolvedCommands.{resolved_are_meant}
use Rattle.plain_tables.proofs.resolved_laws.resolved_are_meant.Goals as goal

pub returns : goal.returns
returns c = resolved_are_meant
