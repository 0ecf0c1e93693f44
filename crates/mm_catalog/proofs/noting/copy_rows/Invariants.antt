use Rattle.std.proofs.Common.{◌≡◌, ◌++◌, take}
use Rattle.mm_catalog.specs.Noted.{cells_at}
use Rattle.mm_catalog.proofs.noting.copy_rows.Given as goal

abbrev pub invariant-loop-r : goal.invariant-loop-r
invariant-loop-r l = l.cells.items ≡ l.initial.cells.items ++ cells_at l.relation l.assignments (take l.r-index l.rows)
