use Rattle.mm_catalog.specs.Counted.{AreCountedBy, none}
use Rattle.mm_catalog.proofs.SetLinks.{raising}
use Rattle.mm_catalog.proofs.updating.count_up_sets.Given as goal

abbrev pub invariant-loop-set : goal.invariant-loop-set
invariant-loop-set l = AreCountedBy l.initial.before l.before (raising l.relation.targets l.sets l.n l.set-index) none
