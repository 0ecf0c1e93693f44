use Rattle.mm_statements.proofs.Lines.{statements_answer_as_their_lines}
use Rattle.mm_statements.proofs.laws.statements_answer_as_their_lines.Goals as goal

pub returns : goal.returns
returns c = statements_answer_as_their_lines
