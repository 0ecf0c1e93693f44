use Rattle.plain_statements.proofs.Example.{question_marks_are_holes}
use Rattle.plain_statements.proofs.laws.question_marks_are_holes.Goals as goal

pub returns : goal.returns
returns c = question_marks_are_holes
