use Rattle.mm_relation.specs.Indexes.{Gains}
use Rattle.mm_relation.proofs.Loops.{each_changed}
use Rattle.mm_relation.proofs.indexes.insert.Goals as goal

pub returns : goal.returns
returns g c =
    each_changed (Gains (g.R.LinkedKeys.keys c.args.others.now) c.args.rows.now.tuples c.args.r) c.args.indexes.now c.as_mut_slice.result.now c.insert_each.new.indexes
    c.as_mut_slice.ensures.value c.insert_each.auto.indexes c.insert_each.ensures
