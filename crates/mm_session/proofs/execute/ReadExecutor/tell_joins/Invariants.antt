use Rattle.std.proofs.Common.{take}
use Rattle.mm_session.specs.Batched.{source_numbers}
use Rattle.mm_session.specs.Told.{AreNextJoins}
use Rattle.mm_session.proofs.execute.ReadExecutor.tell_joins.Given as goal

abbrev pub invariant-loop-join : goal.invariant-loop-join
invariant-loop-join l = AreNextJoins l.self.policy l.catalog (source_numbers l.query) (take l.join-index l.query.joins) l.joins.items
