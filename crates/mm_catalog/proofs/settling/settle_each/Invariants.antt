use Rattle.std.proofs.Common.{◌≡◌, ◌++◌, map, take, drop}
use Rattle.mm_catalog.specs.Settled.{settled_relation}
use Rattle.mm_catalog.proofs.settling.settle_each.Given as goal

abbrev pub invariant-loop-relation : goal.invariant-loop-relation
invariant-loop-relation l = record {
  settled : l.relations ≡ map settled_relation (take l.relation-index l.initial.relations) ++ drop l.relation-index l.initial.relations;
}
