use Rattle.std.proofs.Common.{◌≡◌, ℕ, ◌<◌, ◌≤◌, length, get_or}
use Rattle.part_raw.specs.declared.tuple_ref.TupleRef.{TupleRef}
use Rattle.mm_relation.specs.declared.index.IndexOn.{IndexOn}
use Rattle.mm_relation.specs.Indexes.{seen, sure, room_in, CoversIn}
use Rattle.mm_relation.proofs.indexes.cover_each.Given as goal

abbrev pub invariant-loop-on : goal.invariant-loop-on
invariant-loop-on l = record {
  same : (k : ℕ) (d : IndexOn) → k < length l.fn.indexes → seen (get_or l.indexes k d) ≡ seen (get_or l.fn.indexes k d);
  room : (t h k : ℕ) (d : IndexOn) → k < length l.fn.indexes → sure t h (get_or l.fn.indexes k d).index ≤ room_in (get_or l.fn.indexes k d).index → sure t h (get_or l.indexes k d).index ≤ room_in (get_or l.indexes k d).index;
  kept : (q : TupleRef) (k : ℕ) (d : IndexOn) → k < length l.fn.indexes → CoversIn q (get_or l.fn.indexes k d).index → CoversIn q (get_or l.indexes k d).index;
  covered : (k : ℕ) (d : IndexOn) → k < l.on-index → CoversIn l.r (get_or l.indexes k d).index;
}
