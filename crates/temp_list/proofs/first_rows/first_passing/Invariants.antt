use Rattle.std.proofs.Common.{◌≡◌, ◌≤◌, ◌++◌, filter, vec_len}
use Rattle.mm_index.specs.Range.{from_range}
use Rattle.mm_relation.specs.State.{tree_list}
use Rattle.ttree.specs.Held.{rest_of}
use Rattle.temp_list.specs.Ranges.{place_between}
use Rattle.temp_list.specs.Reading.{row_passes, value_in}
use Rattle.temp_list.proofs.first_rows.first_passing.Given as goal

-- those of the walk so far that pass
abbrev pub invariant-loop-r : goal.invariant-loop-r
invariant-loop-r g l = record {
  split : from_range (λ r. place_between 0 l.tests (value_in (g.R.Relations.tables l.tables) l.relation 0 r)) (tree_list l.relation.by_key) ≡ l.yielded ++ rest_of l.r-iterator;
  found : l.found.items ≡ filter (row_passes (g.R.Relations.tables l.tables) l.relation l.tests) l.yielded;
  few : vec_len l.found ≤ l.most;
}
