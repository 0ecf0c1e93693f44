use Rattle.mm_relation.specs.Indexes.{seen}
use Rattle.mm_relation.proofs.Loops.{each_alike}
use Rattle.mm_relation.proofs.indexes.shed_spares.Goals as goal

pub returns-clause-same : goal.returns-clause-same
returns-clause-same c = each_alike seen c.args.indexes.now c.as_mut_slice.result.now c.shed_each.new.indexes c.as_mut_slice.ensures.value c.shed_each.auto.indexes c.shed_each.ensures.same
