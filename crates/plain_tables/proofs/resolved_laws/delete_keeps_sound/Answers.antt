use Rattle.plain_tables.proofs.Sound.{delete_keeps_sound}
use Rattle.plain_tables.proofs.resolved_laws.delete_keeps_sound.Goals as goal

pub returns : goal.returns
returns c = delete_keeps_sound
