use Rattle.plain_statements.proofs.Spelled.{spells-one-statement}
use Rattle.plain_statements.proofs.laws.line_spells_at_most_one_statement.Goals as goal

pub returns : goal.returns
returns c = spells-one-statement
