use Rattle.plain_statements.proofs.Spelled.{commands_are_statements}
use Rattle.plain_statements.proofs.laws.commands_are_statements.Goals as goal

pub returns : goal.returns
returns c = commands_are_statements
