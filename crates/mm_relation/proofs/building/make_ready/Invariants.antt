use Rattle.std.proofs.Common.{◌≡◌, ◌<◌}
use Rattle.part_raw.specs.declared.tuple_ref.TupleRef.{TupleRef}
use Rattle.mm_relation.specs.Indexes.{seen, CoversIn}
use Rattle.mm_relation.proofs.building.make_ready.Given as goal

abbrev pub invariant-loop-slot : goal.invariant-loop-slot
invariant-loop-slot l = record {
  same : seen l.on ≡ seen l.fn.on;
  covered : (q : TupleRef) → q.number < l.slot → CoversIn q l.on.index;
}
