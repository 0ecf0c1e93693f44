use Rattle.plain_tables.proofs.Sound.{update_keeps_sound}
use Rattle.plain_tables.proofs.resolved_laws.update_keeps_sound.Goals as goal

pub returns : goal.returns
returns c = update_keeps_sound
