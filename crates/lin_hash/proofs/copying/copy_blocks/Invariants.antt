use Rattle.std.proofs.Common.{◌≡◌, map, take, vec_len}
use Rattle.std.specs.Vec.{vec_capacity}
use Rattle.lin_hash.specs.Copies.{shown}
use Rattle.lin_hash.proofs.copying.copy_blocks.Given as goal

abbrev pub invariant-loop-block : goal.invariant-loop-block
invariant-loop-block l = record {
  made : map shown l.copies.items ≡ map shown (take l.block-index l.blocks.items);
  many : vec_len l.copies ≡ l.block-index;
  room : vec_capacity l.copies ≡ vec_len l.blocks;
}
