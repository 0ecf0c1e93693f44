use Rattle.std.proofs.Common.{◌≡◌, ◌++◌, map, take, drop}
use Rattle.mm_catalog.specs.Dropped.{moved_by, renumbered}
use Rattle.mm_catalog.proofs.renumbering.renumber_from.Given as goal

abbrev pub invariant-loop-relation : goal.invariant-loop-relation
invariant-loop-relation l = l.behind ≡ map (renumbered (moved_by l.renumbering)) (take l.relation-index l.initial.behind) ++ drop l.relation-index l.initial.behind
