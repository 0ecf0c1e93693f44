use Rattle.mm_session.proofs.Sinks.{full_after}
use Rattle.mm_session.proofs.StorableValues.{storable_unlinked}
use Rattle.mm_session.proofs.execute.sink.CellsRowSink.push_value.Goals as goal

pub push-requires : goal.push-requires
push-requires c = storable_unlinked c.args.value.now c.requires

pub returns-clause-declined : goal.returns-clause-declined
returns-clause-declined c = full_after c.push.result c.args.self.now c.push.new.self c.args.value.now c.requires c.push.ensures.too_long c.push.ensures.unchanged
