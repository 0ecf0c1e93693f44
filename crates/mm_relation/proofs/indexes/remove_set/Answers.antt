use Rattle.mm_relation.specs.Indexes.{LosesSet}
use Rattle.mm_relation.proofs.Loops.{each_changed}
use Rattle.mm_relation.proofs.indexes.remove_set.Goals as goal

pub returns : goal.returns
returns g c =
    each_changed (LosesSet (g.R.LinkedKeys.keys c.args.others.now) c.args.rows.now.tuples c.args.r c.args.sets.now) c.args.indexes.now c.as_mut_slice.result.now c.remove_each_set.new.indexes
    c.as_mut_slice.ensures.value c.remove_each_set.auto.indexes c.remove_each_set.ensures
