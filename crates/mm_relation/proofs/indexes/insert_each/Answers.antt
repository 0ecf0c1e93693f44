use Rattle.std.proofs.Common.{arith}
use Rattle.mm_relation.specs.Indexes.{Awaits}
use Rattle.mm_relation.proofs.Loops.{changed_more, still_holds}
use Rattle.mm_relation.proofs.indexes.insert_each.Goals as goal

pub insert-requires-clause-awaits : goal.insert-requires-clause-awaits
insert-requires-clause-awaits g c = still_holds c.loop-on.invariant c.on-item.result (omega arith) (Awaits (g.R.LinkedKeys.keys c.args.others.now) c.args.rows.now.tuples c.args.r) c.requires.awaits

pub loop-on-preserved : goal.loop-on-preserved
loop-on-preserved g c = changed_more c.loop-on.invariant c.on-item.result (omega arith) _ (omega arith) c.insert.ensures
