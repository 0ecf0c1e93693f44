use Rattle.std.proofs.Common.{arith}
use Rattle.mm_relation.specs.Indexes.{Has}
use Rattle.mm_relation.proofs.Loops.{changed_more, still_holds}
use Rattle.mm_relation.proofs.indexes.remove_each_set.Goals as goal

pub remove_if_set-requires-clause-has : goal.remove_if_set-requires-clause-has
remove_if_set-requires-clause-has g c = still_holds c.loop-on.invariant c.on-item.result (omega arith) (Has (g.R.LinkedKeys.keys c.args.others.now) c.args.rows.now.tuples c.args.r) c.requires.has

pub loop-on-preserved : goal.loop-on-preserved
loop-on-preserved g c = changed_more c.loop-on.invariant c.on-item.result (omega arith) _ (omega arith) c.remove_if_set.ensures
