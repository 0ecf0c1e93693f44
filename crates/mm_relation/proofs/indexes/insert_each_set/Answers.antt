use Rattle.std.proofs.Common.{arith}
use Rattle.mm_relation.specs.Indexes.{AwaitsSet}
use Rattle.mm_relation.proofs.Loops.{changed_more, still_holds}
use Rattle.mm_relation.proofs.indexes.insert_each_set.Goals as goal

pub insert_if_set-requires-clause-awaits : goal.insert_if_set-requires-clause-awaits
insert_if_set-requires-clause-awaits g c = still_holds c.loop-on.invariant c.on-item.result (omega arith) (AwaitsSet (g.R.LinkedKeys.keys c.args.others.now) c.args.rows.now.tuples c.args.r c.args.sets.now) c.requires.awaits

pub loop-on-preserved : goal.loop-on-preserved
loop-on-preserved g c = changed_more c.loop-on.invariant c.on-item.result (omega arith) _ (omega arith) c.insert_if_set.ensures
