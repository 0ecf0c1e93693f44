use Rattle.plain_tables.proofs.Written.{updates_test_the_written, deletes_test_the_written}
use Rattle.plain_tables.proofs.written_laws.changes_test_the_written.Goals as goal

pub returns : goal.returns
returns c = record { update = updates_test_the_written; delete = deletes_test_the_written }
