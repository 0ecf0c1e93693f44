use Rattle.mm_session.proofs.Streams.{answers_are_unique}
use Rattle.mm_session.proofs.laws.answers_are_unique.Goals as goal

pub returns : goal.returns
returns c = answers_are_unique
