use Rattle.plain_streams.proofs.Texts.{dumps_of_runs_load_again, reached_are_read_back}
use Rattle.plain_streams.proofs.laws.dumps_of_runs_load_again.Goals as goal

pub returns-clause-read_back : goal.returns-clause-read_back
returns-clause-read_back c = reached_are_read_back

pub returns-clause-copy : goal.returns-clause-copy
returns-clause-copy c = dumps_of_runs_load_again
