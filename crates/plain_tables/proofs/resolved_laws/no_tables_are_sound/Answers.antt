use Rattle.plain_tables.proofs.Sound.{no_tables_are_sound}
use Rattle.plain_tables.proofs.resolved_laws.no_tables_are_sound.Goals as goal

pub returns : goal.returns
returns c = no_tables_are_sound
