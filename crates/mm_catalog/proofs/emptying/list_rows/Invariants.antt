use Rattle.std.proofs.Common.{◌≡◌, ◌+◌, ◌≤◌, ◌++◌, length}
use Rattle.std.specs.Prelude.{vec_capacity}
use Rattle.ttree.specs.Held.{rest_of}
use Rattle.mm_relation.specs.State.{tree_list}
use Rattle.mm_catalog.proofs.emptying.list_rows.Given as goal

abbrev pub invariant-loop-r : goal.invariant-loop-r
invariant-loop-r l = record {
  split : tree_list l.relation.by_key ≡ l.yielded ++ rest_of l.r-iterator;
  listed : l.refs.items ≡ l.fn.refs.items ++ l.yielded;
  room : length l.fn.refs.items + length (tree_list l.relation.by_key) ≤ vec_capacity l.refs;
}
