use Rattle.std.proofs.Common.{◌≡◌, [], ◌∷◌, take}
use Rattle.project_hash.specs.Shown.{references_of}
use Rattle.project_hash.proofs.scanning.list_of.Given as goal

-- those of the rows so far
abbrev pub invariant-loop-row : goal.invariant-loop-row
invariant-loop-row g l = l.list ≡ record { sources = l.fn.table.0 ∷ []; rows = references_of (take l.row-index l.rows); columns = [] }
