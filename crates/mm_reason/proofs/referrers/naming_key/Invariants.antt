use Rattle.std.proofs.Common.{◌≡◌, ◌++◌}
use Rattle.ttree.specs.Held.{rest_of}
use Rattle.mm_relation.specs.State.{tree_list}
use Rattle.mm_reason.proofs.referrers.naming_key.Given as goal

abbrev pub invariant-loop-r : goal.invariant-loop-r
invariant-loop-r l = tree_list l.relation.by_key ≡ l.yielded ++ rest_of l.r-iterator
