use Rattle.std.proofs.Common.{◌≡◌, take, vec_len}
use Rattle.std.specs.Vec.{vec_capacity}
use Rattle.part_raw.proofs.store.copies.copy_blocks.Given as goal

abbrev pub invariant-loop-part : goal.invariant-loop-part
invariant-loop-part g l = record {
  made : l.copies.items ≡ take l.part l.blocks.items;
  many : vec_len l.copies ≡ l.part;
  room : vec_capacity l.copies ≡ vec_len l.blocks;
}
