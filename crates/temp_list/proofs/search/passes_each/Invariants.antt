use Rattle.std.proofs.Common.{◌≡◌, drop}
use Rattle.temp_list.specs.Reading.{row_passes}
use Rattle.temp_list.proofs.search.passes_each.Given as goal

-- all of those so far
abbrev pub invariant-loop-test : goal.invariant-loop-test
invariant-loop-test g l =
    row_passes (g.R.Relations.tables l.tables) l.relation (drop l.test-index l.tests) l.fn.r ≡ row_passes (g.R.Relations.tables l.tables) l.relation l.tests l.fn.r
