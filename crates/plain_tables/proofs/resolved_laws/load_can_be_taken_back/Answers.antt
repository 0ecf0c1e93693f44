use Rattle.plain_tables.proofs.Taken.{load_can_be_taken_back}
use Rattle.plain_tables.proofs.resolved_laws.load_can_be_taken_back.Goals as goal

pub returns : goal.returns
returns c = load_can_be_taken_back
