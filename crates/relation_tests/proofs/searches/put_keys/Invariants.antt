use Rattle.std.proofs.Common.{◌≡◌, [], length}
use Rattle.mm_relation.specs.State.{IsCurrent, linked_keys}
use Rattle.relation_tests.proofs.searches.put_keys.Given as goal

abbrev pub invariant-loop-number : goal.invariant-loop-number
invariant-loop-number l = record {
  current : IsCurrent (linked_keys l.relation.targets []) l.relation;
  narrow : length l.relation.targets ≡ 1;
}
