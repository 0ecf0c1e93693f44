use Rattle.plain_streams.proofs.Runs.{errors_change_nothing}
use Rattle.plain_streams.proofs.laws.errors_change_nothing.Goals as goal

pub returns : goal.returns
returns c = errors_change_nothing
