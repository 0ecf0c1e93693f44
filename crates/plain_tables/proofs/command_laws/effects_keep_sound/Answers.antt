use Rattle.plain_tables.proofs.ResolvedCommands.{effects_keep_sound}
use Rattle.plain_tables.proofs.command_laws.effects_keep_sound.Goals as goal

pub returns : goal.returns
returns c = effects_keep_sound
