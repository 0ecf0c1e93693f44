use Rattle.mm_relation.specs.Indexes.{GainsSet}
use Rattle.mm_relation.proofs.Loops.{AreChanged}
use Rattle.mm_relation.proofs.indexes.insert_each_set.Given as goal

abbrev pub invariant-loop-on : goal.invariant-loop-on
invariant-loop-on g l = AreChanged (GainsSet (g.R.LinkedKeys.keys l.others) l.rows.tuples l.r l.sets) l.fn.indexes l.indexes l.on-index
