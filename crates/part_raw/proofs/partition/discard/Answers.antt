use Rattle.part_raw.proofs.Slots.{vacant_of_bits}
use Rattle.part_raw.proofs.Rows.{empty-laid}
use Rattle.part_raw.proofs.partition.discard.Goals as goal

pub release-requires-clause-empty : goal.release-requires-clause-empty
release-requires-clause-empty g c = empty-laid c.args.width c.loop-slot.block c.requires.wide.0 c.loop-slot.invariant.laid (vacant_of_bits _ _ c.loop-slot.invariant.bits c.in_default.ensures)
