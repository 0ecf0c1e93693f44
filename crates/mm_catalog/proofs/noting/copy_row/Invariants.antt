use Rattle.std.proofs.Common.{◌≡◌, ◌++◌, Some, take}
use Rattle.std.specs.FinMap as finite
use Rattle.mm_relation.specs.Rows.{Row}
use Rattle.mm_catalog.specs.Noted.{cells_to}
use Rattle.mm_catalog.proofs.noting.copy_row.Given as goal

abbrev pub invariant-loop-assignment : goal.invariant-loop-assignment
invariant-loop-assignment l =
    (row : Row) → finite.get l.relation.rows l.r ≡ Some row → l.cells.items ≡ l.initial.cells.items ++ cells_to (take l.assignment-index l.assignments) row
