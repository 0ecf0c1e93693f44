use Rattle.mm_session.proofs.Streams.{streams_read_no_indexes}
use Rattle.mm_session.proofs.laws.streams_read_no_indexes.Goals as goal

pub returns : goal.returns
returns c = streams_read_no_indexes
