use Rattle.std.proofs.Common.{◌≡◌, take}
use Rattle.project_hash.proofs.values.ShowsValues.is_alike.Given as goal

-- the values so far are equal
abbrev pub invariant-loop-column : goal.invariant-loop-column
invariant-loop-column g l = take l.column (g.Self.ShowsValues.values l.self) ≡ take l.column (g.Self.ShowsValues.values l.other)
