use Rattle.mm_relation.specs.Indexes.{seen}
use Rattle.mm_relation.proofs.Loops.{each_alike}
use Rattle.mm_relation.proofs.Room.{each_roomy}
use Rattle.mm_relation.proofs.indexes.reserve.Goals as goal

pub returns-clause-same : goal.returns-clause-same
returns-clause-same c = each_alike seen c.args.indexes.now c.as_mut_slice.result.now c.reserve_each.new.indexes c.as_mut_slice.ensures.value c.reserve_each.auto.indexes c.reserve_each.ensures.same

pub returns-clause-keeps : goal.returns-clause-keeps
returns-clause-keeps c =
    each_roomy c.args.indexes.now c.as_mut_slice.result.now c.reserve_each.new.indexes c.as_mut_slice.ensures.value c.reserve_each.auto.indexes
    (λ t h k d l. c.reserve_each.ensures.room t h k d l) (λ q k d l. c.reserve_each.ensures.kept q k d l)
