use Rattle.std.proofs.Common.{◌≡◌, drop}
use Rattle.project_hash.specs.Distinct.{values_cmp}
use Rattle.project_hash.proofs.values.ShowsValues.compare.Given as goal

-- the values so far are equal
abbrev pub invariant-loop-column : goal.invariant-loop-column
invariant-loop-column g l =
    values_cmp (drop l.column (g.Self.ShowsValues.values l.self)) (drop l.column (g.Self.ShowsValues.values l.other)) ≡ values_cmp (g.Self.ShowsValues.values l.self) (g.Self.ShowsValues.values l.other)
