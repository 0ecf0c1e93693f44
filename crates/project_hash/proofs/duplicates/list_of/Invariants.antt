use Rattle.std.proofs.Common.{◌≡◌, take}
use Rattle.project_hash.specs.Shown.{references_of}
use Rattle.project_hash.proofs.duplicates.list_of.Given as goal

-- the rows so far, over the list's sources
abbrev pub invariant-loop-row : goal.invariant-loop-row
invariant-loop-row g l = record {
  sources : l.picked.sources ≡ l.list.sources;
  rows : l.picked.rows ≡ references_of (take l.row-index l.rows);
}
