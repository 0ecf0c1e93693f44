use Rattle.std.proofs.Common.{vec_len}
use Rattle.part_raw.specs.Open.{tables, AreLaid, HaveBitmaps}
use Rattle.part_raw.proofs.store.Partitions.drop.Given as goal

abbrev pub invariant-loop-block : goal.invariant-loop-block
invariant-loop-block g l = record { laid : AreLaid l.width l.blocks.items; mapped : HaveBitmaps (tables l.width l.blocks.items) l.occupancies.items }

abbrev pub decreases-loop-block : goal.decreases-loop-block
decreases-loop-block g l = vec_len l.blocks
