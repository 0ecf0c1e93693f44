use Rattle.plain_streams.proofs.Division.{every_stream_divides}
use Rattle.plain_streams.proofs.laws.every_stream_divides.Goals as goal

pub returns : goal.returns
returns c = every_stream_divides
