use Rattle.std.proofs.Common.{◌≡◌, IsSome, drop, filter}
use Rattle.std.specs.FinMap as finite
use Rattle.std.specs.List.{All}
use Rattle.temp_list.specs.Reading.{row_passes, unbounded}
use Rattle.temp_list.proofs.search.keep_passing_unbounded.Given as goal

-- of those that are left, those that pass the tests to come are those that pass all
abbrev pub invariant-loop-test : goal.invariant-loop-test
invariant-loop-test g l = record {
  held : All (λ r. IsSome (finite.get l.relation.rows r)) l.rows.items;
  left : filter (row_passes (g.R.Relations.tables l.tables) l.relation (unbounded l.column.0 (drop l.test-index l.tests))) l.rows.items
      ≡ filter (row_passes (g.R.Relations.tables l.tables) l.relation (unbounded l.column.0 l.tests)) l.initial.rows.items;
}
