use Rattle.std.proofs.Common.{◌≡◌, take}
use Rattle.project_hash.specs.Known.{row_states}
use Rattle.project_hash.proofs.scanning.in_order.Given as goal

-- those of the references so far
abbrev pub invariant-loop-r : goal.invariant-loop-r
invariant-loop-r g l = l.rows.items ≡ row_states l.table (take l.r-index l.known)
