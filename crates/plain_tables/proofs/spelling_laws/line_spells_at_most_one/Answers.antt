use Rattle.plain_tables.proofs.Uniqueness.{spells-one}
use Rattle.plain_tables.proofs.spelling_laws.line_spells_at_most_one.Goals as goal

pub returns : goal.returns
returns c = spells-one
