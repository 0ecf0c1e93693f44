use Rattle.std.proofs.Common.{◌≡◌, ◌++◌, [], filter}
use Rattle.ttree.specs.Held.{rest_of}
use Rattle.mm_relation.specs.State.{tree_list}
use Rattle.temp_list.specs.Reading.{row_passes}
use Rattle.temp_list.proofs.only_row.only_by_scan.Given as goal

-- none of the rows so far passes
abbrev pub invariant-loop-r : goal.invariant-loop-r
invariant-loop-r g l = record {
  split : tree_list l.relation.by_key ≡ l.yielded ++ rest_of l.r-iterator;
  none : filter (row_passes (g.R.Relations.tables l.tables) l.relation l.tests) l.yielded ≡ [];
}
