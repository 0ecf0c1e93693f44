use Rattle.mm_relation.specs.Indexes.{GainsSet}
use Rattle.mm_relation.proofs.Loops.{each_changed}
use Rattle.mm_relation.proofs.indexes.insert_set.Goals as goal

pub returns : goal.returns
returns g c =
    each_changed (GainsSet (g.R.LinkedKeys.keys c.args.others.now) c.args.rows.now.tuples c.args.r c.args.sets.now) c.args.indexes.now c.as_mut_slice.result.now c.insert_each_set.new.indexes
    c.as_mut_slice.ensures.value c.insert_each_set.auto.indexes c.insert_each_set.ensures
