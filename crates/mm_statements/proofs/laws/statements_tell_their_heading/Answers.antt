use Rattle.mm_statements.proofs.Headings.{statements_tell_their_heading}
use Rattle.mm_statements.proofs.laws.statements_tell_their_heading.Goals as goal

pub returns : goal.returns
returns c = statements_tell_their_heading
