use Rattle.std.proofs.Common.{◌≡◌, ℕ, ◌<◌, ◌≤◌, length, sum_by, take, vec_len}
use Rattle.part_raw.specs.Layout.{tuples_of, vacancies}
use Rattle.part_raw.specs.Open.{AreKept, HaveCounts, HoldsWhereBlock, tables}
use Rattle.part_raw.proofs.store.pop_bare.Given as goal

abbrev pub invariant-loop-blocks : goal.invariant-loop-blocks
invariant-loop-blocks g l = record {
  kept : AreKept l.width l.blocks.items l.occupancies.items;
  own : HaveCounts l.fn.blocks.items l.counts.items → HaveCounts l.blocks.items (take (length l.blocks.items) l.counts.items);
  as_many : length l.occupancies.items ≡ length l.blocks.items;
  tuples : tuples_of (tables l.width l.blocks.items) ≡ tuples_of (tables l.width l.fn.blocks.items);
  fewer : length l.blocks.items ≤ length l.fn.blocks.items;
  free : sum_by vacancies (tables l.width l.blocks.items) ≡ sum_by vacancies (tables l.width l.fn.blocks.items);
  slots : sum_by length (tables l.width l.blocks.items) ≡ sum_by length (tables l.width l.fn.blocks.items);
  held : ((part : ℕ) → part < length l.fn.occupancies.items → HoldsWhereBlock l.fn.occupancies.items part) → (part : ℕ) → part < length l.occupancies.items → HoldsWhereBlock l.occupancies.items part;
}

abbrev pub decreases-loop-blocks : goal.decreases-loop-blocks
decreases-loop-blocks g l = vec_len l.blocks
