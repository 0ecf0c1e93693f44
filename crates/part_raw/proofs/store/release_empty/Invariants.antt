use Rattle.std.proofs.Common.{◌≡◌, ℕ, ◌+◌, ◌*◌, ◌<◌, ◌≤◌, IsSome, length, sum_by}
use Rattle.part_raw.specs.Layout.{tuples_of, vacancies}
use Rattle.std.specs.FinMap.{get}
use Rattle.part_raw.specs.declared.tuple_ref.TupleRef.{TupleRef}
use Rattle.part_raw.specs.Counted.{number_of}
use Rattle.part_raw.specs.Open.{AreKept, HaveCounts, HoldsWhereBlock, tables}
use Rattle.part_raw.proofs.store.release_empty.Given as goal

abbrev pub invariant-loop-part : goal.invariant-loop-part
invariant-loop-part g l = record {
  kept : AreKept l.width l.blocks.items l.occupancies.items;
  as_many : length l.blocks.items ≡ length l.fn.blocks.items;
  counts : length l.counts.items ≡ length l.fn.counts.items;
  own : HaveCounts l.fn.blocks.items l.fn.counts.items → HaveCounts l.blocks.items l.counts.items;
  tuples : tuples_of (tables l.width l.blocks.items) ≡ tuples_of (tables l.width l.fn.blocks.items);
  numbers : (r : TupleRef) → IsSome (get (tuples_of (tables l.width l.blocks.items)) r) → number_of l.counts.items r ≡ number_of l.fn.counts.items r;
  free : sum_by vacancies (tables l.width l.blocks.items) + l.given ≡ sum_by vacancies (tables l.width l.fn.blocks.items);
  slots : sum_by length (tables l.width l.blocks.items) + l.given ≡ sum_by length (tables l.width l.fn.blocks.items);
  most : l.given ≤ 256 * l.part;
  held : (k : ℕ) → k < l.part → HoldsWhereBlock l.occupancies.items k;
}
