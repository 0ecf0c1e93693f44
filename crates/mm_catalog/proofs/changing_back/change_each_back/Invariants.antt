use Rattle.std.proofs.Common.{◌≡◌, ◌*◌, drop, length, take}
use Rattle.mm_relation.specs.State.{IsCurrent, IsKept, linked_keys}
use Rattle.mm_catalog.specs.ChangedBack.{AreChangedBack, AreRelinked}
use Rattle.mm_catalog.proofs.changing_back.change_each_back.Given as goal

abbrev pub invariant-loop-k : goal.invariant-loop-k
invariant-loop-k l = record {
  linked : AreRelinked l.initial.before l.before l.initial.relation l.relation (l.k * l.width);
  changed : AreChangedBack l.initial.relation l.relation (take l.k l.rows) l.width l.initial.cells;
  rest : drop (l.k * l.width) l.cells ≡ drop (l.k * l.width) l.initial.cells;
  count : length l.cells ≡ length l.initial.cells;
  kept : IsKept l.relation;
  current : IsCurrent (linked_keys l.initial.relation.targets l.initial.before) l.relation;
}
