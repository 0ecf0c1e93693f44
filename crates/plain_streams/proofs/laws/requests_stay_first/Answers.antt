use Rattle.plain_streams.proofs.Division.{requests_stay_first}
use Rattle.plain_streams.proofs.laws.requests_stay_first.Goals as goal

pub returns : goal.returns
returns c = requests_stay_first
