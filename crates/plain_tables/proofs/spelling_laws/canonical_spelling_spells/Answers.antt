use Rattle.plain_tables.proofs.Canonical.{canonical-spells}
use Rattle.plain_tables.proofs.spelling_laws.canonical_spelling_spells.Goals as goal

pub returns : goal.returns
returns c = canonical-spells
