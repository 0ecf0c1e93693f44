use Rattle.std.proofs.Common.{◌≡◌, ◌++◌}
use Rattle.ttree.specs.Held.{rest_of}
use Rattle.mm_catalog.specs.Counted.{AreCountedBy, none}
use Rattle.mm_catalog.proofs.Unlinking.{naming}
use Rattle.mm_catalog.proofs.removal.count_down_relation.Given as goal
use Rattle.mm_relation.specs.State.{tree_list}

abbrev pub invariant-loop-r : goal.invariant-loop-r
invariant-loop-r l = record {
  split : (tree_list l.relation.by_key) ≡ l.yielded ++ rest_of l.r-iterator;
  counted : AreCountedBy l.fn.before l.before none (naming l.relation l.yielded);
}
