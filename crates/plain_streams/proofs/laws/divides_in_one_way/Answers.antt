use Rattle.plain_streams.proofs.Division.{divides_in_one_way}
use Rattle.plain_streams.proofs.laws.divides_in_one_way.Goals as goal

pub returns : goal.returns
returns c = divides_in_one_way
