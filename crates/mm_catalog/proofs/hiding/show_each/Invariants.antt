use Rattle.std.proofs.Common.{◌≡◌, ◌+◌, ◌-◌, ◌≤◌, length, take}
use Rattle.std.specs.FinMap as finite
use Rattle.mm_relation.specs.State.{IsKept, IsCurrent, linked_keys}
use Rattle.mm_catalog.specs.Hidden.{AreLinked, AreShown}
use Rattle.mm_catalog.proofs.hiding.show_each.Given as goal

abbrev pub invariant-loop-r : goal.invariant-loop-r
invariant-loop-r l = record {
  linked : AreLinked l.initial.before l.before l.initial.relation l.relation l.r-index;
  shown : AreShown l.initial.relation l.relation (take l.r-index l.rows);
  few : finite.len l.relation.rows + (length l.rows - l.r-index) ≤ 16777216;
  owed : l.relation.owed ≡ l.initial.relation.owed - l.r-index;
  kept : IsKept l.relation;
  current : IsCurrent (linked_keys l.initial.relation.targets l.initial.before) l.relation;
}
