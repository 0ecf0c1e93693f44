use Rattle.std.proofs.Common.{◌≡◌, ◌≤◌, drop, length, vec_capacity}
use Rattle.mm_catalog.proofs.Packed.{AreFirst}
use Rattle.mm_catalog.proofs.insert.pack.Given as goal

abbrev pub invariant-loop : goal.invariant-loop
invariant-loop g l = record {
  count : length l.cells.items ≡ l.counter;
  left : g.V.RowValues.left l.values ≡ drop l.counter (g.V.RowValues.left l.fn.values);
  first : AreFirst l.before l.relation.targets (g.V.RowValues.left l.fn.values) l.cells.items;
  room : length (g.V.RowValues.left l.fn.values) ≤ vec_capacity l.cells;
}
