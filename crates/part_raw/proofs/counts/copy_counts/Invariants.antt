use Rattle.std.proofs.Common.{◌≡◌, take, vec_len}
use Rattle.std.specs.Vec.{vec_capacity}
use Rattle.part_raw.proofs.counts.copy_counts.Given as goal

abbrev pub invariant-loop-numbers : goal.invariant-loop-numbers
invariant-loop-numbers l = record {
  made : l.copies.items ≡ take l.numbers-index l.counts.items;
  many : vec_len l.copies ≡ l.numbers-index;
  room : vec_capacity l.copies ≡ vec_len l.counts;
}
