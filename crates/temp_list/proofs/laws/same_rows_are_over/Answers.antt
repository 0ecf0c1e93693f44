use Rattle.temp_list.proofs.OneOrder.{same_are_over}
use Rattle.temp_list.proofs.laws.same_rows_are_over.Goals as goal

pub returns : goal.returns
returns c = same_are_over
