use Rattle.plain_streams.proofs.DumpRequests.{dumps_are_requests, dumps_run_again}
use Rattle.plain_streams.proofs.laws.dumps_are_requests.Goals as goal

pub returns-clause-request : goal.returns-clause-request
returns-clause-request c = dumps_are_requests

pub returns-clause-run : goal.returns-clause-run
returns-clause-run c = dumps_run_again
