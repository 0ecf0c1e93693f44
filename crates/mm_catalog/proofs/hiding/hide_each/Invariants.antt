use Rattle.std.proofs.Common.{◌≡◌, ◌+◌, ◌-◌, ◌≤◌, length, take}
use Rattle.std.specs.FinMap as finite
use Rattle.mm_relation.specs.State.{IsKept, IsCurrent, linked_keys}
use Rattle.mm_catalog.specs.Deleted.{AreRemoved, AreUnlinked}
use Rattle.mm_catalog.specs.Hidden.{AreHidden}
use Rattle.mm_catalog.proofs.hiding.hide_each.Given as goal

abbrev pub invariant-loop-place : goal.invariant-loop-place
invariant-loop-place l = record {
  unlinked : AreUnlinked l.initial.before l.before l.initial.relation l.relation;
  removed : AreRemoved l.initial.relation l.relation (take l.place l.rows);
  hidden : AreHidden l.initial.relation l.relation (take l.place l.rows);
  few : finite.len l.relation.hidden + (length l.rows - l.place) ≤ l.relation.owed;
  owed : l.relation.owed ≡ l.initial.relation.owed;
  kept : IsKept l.relation;
  current : IsCurrent (linked_keys l.initial.relation.targets l.initial.before) l.relation;
}
