use Rattle.std.proofs.Common.{vec_len}
use Rattle.part_raw.specs.Copies.{AreFirst}
use Rattle.part_raw.proofs.store.copies.discard_blocks.Given as goal

abbrev pub invariant-loop-block : goal.invariant-loop-block
invariant-loop-block g l = AreFirst l.width l.blocks.items l.occupancies.items

abbrev pub decreases-loop-block : goal.decreases-loop-block
decreases-loop-block g l = vec_len l.blocks
