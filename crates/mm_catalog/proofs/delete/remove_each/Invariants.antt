use Rattle.std.proofs.Common.{take}
use Rattle.mm_relation.specs.State.{IsKept, IsCurrent, linked_keys}
use Rattle.mm_catalog.specs.Deleted.{AreRemoved, AreUnlinked}
use Rattle.mm_catalog.specs.Recounted.{KeepsAside}
use Rattle.mm_catalog.proofs.delete.remove_each.Given as goal

abbrev pub invariant-loop-place : goal.invariant-loop-place
invariant-loop-place l = record {
  unlinked : AreUnlinked l.initial.before l.before l.initial.relation l.relation;
  removed : AreRemoved l.initial.relation l.relation (take l.place l.rows);
  aside : KeepsAside l.initial.relation l.relation;
  kept : IsKept l.relation;
  current : IsCurrent (linked_keys l.initial.relation.targets l.initial.before) l.relation;
}
