use Rattle.std.proofs.Common.{◌≡◌, ◌≤◌, ◌+◌, ◌++◌, drop, length, vec_capacity}
use Rattle.mm_catalog.specs.Loaded.{HasMore}
use Rattle.mm_catalog.proofs.LoadSteps.{IsUnderWay}
use Rattle.mm_catalog.proofs.catalog.Catalog.load.Given as goal

abbrev pub invariant-loop : goal.invariant-loop
invariant-loop g l = record {
  count : length l.came.items ≡ length l.fn.came.items + l.counter;
  list : l.came.items ≡ l.fn.came.items ++ drop (length l.fn.came.items) l.came.items;
  left : g.R.LoadedRows.left l.rows ≡ drop l.counter (g.R.LoadedRows.left l.fn.rows);
  room : length l.fn.came.items + length (g.R.LoadedRows.left l.fn.rows) ≤ vec_capacity l.came;
  more : HasMore l.initial.self l.self l.table.0 (drop (length l.fn.came.items) l.came.items);
  way : IsUnderWay l.initial.self l.self l.table (g.R.LoadedRows.left l.fn.rows) l.counter;
}
