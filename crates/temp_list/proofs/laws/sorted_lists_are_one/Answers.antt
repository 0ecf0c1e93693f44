use Rattle.temp_list.proofs.OneOrder.{sorted_are_one}
use Rattle.temp_list.proofs.laws.sorted_lists_are_one.Goals as goal

pub returns : goal.returns
returns c = sorted_are_one
