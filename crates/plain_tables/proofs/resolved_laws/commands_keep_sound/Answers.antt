use Rattle.plain_tables.proofs.ResolvedCommands.{commands_keep_sound}
use Rattle.plain_tables.proofs.resolved_laws.commands_keep_sound.Goals as goal

pub returns : goal.returns
returns c = commands_keep_sound
