use Rattle.plain_statements.proofs.Spelled.{statements_without_marks}
use Rattle.plain_statements.proofs.laws.statements_without_marks.Goals as goal

pub returns : goal.returns
returns c = statements_without_marks
