use Rattle.std.proofs.Common.{◌≡◌, ℕ, ◌+◌, ◌-◌, Some, vec_len}
use Rattle.std.specs.Prelude.{slice_get}
use Rattle.mm_cells.specs.declared.cells.Cells.{Cells}
use Rattle.mm_database.proofs.statements.make_room.Given as goal

abbrev pub invariant-loop-shown : goal.invariant-loop-shown
invariant-loop-shown l = (k : ℕ) (cells : Cells) → slice_get l.initial.shown.items k ≡ Some cells → slice_get l.shown.items k ≡ Some cells

-- as many as are missing
abbrev pub decreases-loop-shown : goal.decreases-loop-shown
decreases-loop-shown l = l.number + 1 - vec_len l.shown
