use Rattle.plain_streams.proofs.Dumps.{dumps_load_again, dumps_restore}
use Rattle.plain_streams.proofs.laws.dumps_load_again.Goals as goal

pub returns-clause-copy : goal.returns-clause-copy
returns-clause-copy c = dumps_load_again

pub returns-clause-restored : goal.returns-clause-restored
returns-clause-restored c = dumps_restore
