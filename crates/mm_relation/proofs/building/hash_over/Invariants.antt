use Rattle.std.proofs.Common.{◌≡◌, ◌≤◌, ◌++◌, length}
use Rattle.ttree.specs.Held.{items_of_tree, rest_of}
use Rattle.mm_relation.specs.State.{HashServes}
use Rattle.mm_relation.proofs.building.hash_over.Given as goal

abbrev pub invariant-loop-r : goal.invariant-loop-r
invariant-loop-r g l = record {
  split : items_of_tree l.by_key ≡ l.yielded ++ rest_of l.r-iterator;
  serves : HashServes (g.R.LinkedKeys.keys l.others) l.rows.tuples l.yielded (l.column.0, l.hash.entries);
  room : length (rest_of l.r-iterator) ≤ l.hash.room;
}
