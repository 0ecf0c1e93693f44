use Rattle.std.proofs.Common.{◌≡◌}
use Rattle.mm_catalog.proofs.versions.stamp_each.Given as goal

abbrev pub invariant-loop-relation : goal.invariant-loop-relation
invariant-loop-relation l = record {
  unchanged : l.relations ≡ l.initial.relations;
}
