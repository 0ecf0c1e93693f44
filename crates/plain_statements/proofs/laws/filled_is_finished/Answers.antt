use Rattle.plain_statements.proofs.Resolutions.{filled_is_finished}
use Rattle.plain_statements.proofs.laws.filled_is_finished.Goals as goal

pub returns : goal.returns
returns c = filled_is_finished
