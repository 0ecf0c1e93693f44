use Rattle.std.proofs.Common.{◌≡◌, take, vec_len}
use Rattle.std.specs.Vec.{vec_capacity}
use Rattle.lin_hash.proofs.copying.copy_heads.Given as goal

abbrev pub invariant-loop-head : goal.invariant-loop-head
invariant-loop-head l = record {
  made : l.copies.items ≡ take l.head-index l.heads.items;
  many : vec_len l.copies ≡ l.head-index;
  room : vec_capacity l.copies ≡ vec_capacity l.heads;
}
