use Rattle.mm_relation.specs.Indexes.{Gains}
use Rattle.mm_relation.proofs.Loops.{AreChanged}
use Rattle.mm_relation.proofs.indexes.insert_each.Given as goal

abbrev pub invariant-loop-on : goal.invariant-loop-on
invariant-loop-on g l = AreChanged (Gains (g.R.LinkedKeys.keys l.others) l.rows.tuples l.r) l.fn.indexes l.indexes l.on-index
