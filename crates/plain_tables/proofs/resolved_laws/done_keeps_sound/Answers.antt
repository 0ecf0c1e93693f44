use Rattle.plain_tables.proofs.Sound.{done_keeps_sound}
use Rattle.plain_tables.proofs.resolved_laws.done_keeps_sound.Goals as goal

pub returns : goal.returns
returns c = done_keeps_sound
