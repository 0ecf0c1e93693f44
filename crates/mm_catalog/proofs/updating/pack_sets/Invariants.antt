use Rattle.std.proofs.Common.{◌≡◌, length}
use Rattle.mm_catalog.specs.Assigned.{AreFirstSetBy}
use Rattle.mm_catalog.proofs.updating.pack_sets.Given as goal

abbrev pub invariant-loop-assignment : goal.invariant-loop-assignment
invariant-loop-assignment l = record {
  count : length l.sets.items ≡ l.assignment-index;
  first : AreFirstSetBy l.before l.relation.targets l.assignments l.sets.items;
}
