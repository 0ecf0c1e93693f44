use Rattle.plain_tables.proofs.Spellable.{spelled-spellable}
use Rattle.plain_tables.proofs.spelling_laws.spelled_is_spellable.Goals as goal

pub returns : goal.returns
returns c = spelled-spellable
