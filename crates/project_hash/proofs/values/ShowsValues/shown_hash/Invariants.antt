use Rattle.std.proofs.Common.{◌≡◌, take}
use Rattle.std.specs.List.{fold}
use Rattle.project_hash.specs.Hashes.{with_value}
use Rattle.project_hash.proofs.values.ShowsValues.shown_hash.Given as goal

-- the hash of the values so far
abbrev pub invariant-loop-column : goal.invariant-loop-column
invariant-loop-column g l = l.hash ≡ fold with_value 0 (take l.column (g.Self.ShowsValues.values l.self))
