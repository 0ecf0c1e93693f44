use Rattle.mm_session.proofs.ColumnLaws.{columns_are_the_heading}
use Rattle.mm_session.proofs.laws.columns_are_the_heading.Goals as goal

pub returns : goal.returns
returns c = columns_are_the_heading
