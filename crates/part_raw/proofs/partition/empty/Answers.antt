use Rattle.part_raw.proofs.Slots.{IsPartition-set}
use Rattle.part_raw.proofs.Rows.{slot_within, held_row}
use Rattle.part_raw.proofs.RowSteps.{rows-cleared}
use Rattle.part_raw.proofs.partition.empty.Goals as goal

pub drop_row-requires-clause-held : goal.drop_row-requires-clause-held
drop_row-requires-clause-held g c = held_row c.args.width c.args.slot c.args.block.now c.requires.held

pub returns-clause-laid : goal.returns-clause-laid
returns-clause-laid g c =
    let in_range = slot_within c.args.width c.args.slot c.args.block.now c.requires.held in
    rw c.drop_row.ensures (rows-cleared c.args.width c.args.block.now c.args.slot c.requires.wide.0 in_range c.requires.laid).0

pub returns-clause-slots : goal.returns-clause-slots
returns-clause-slots g c =
    let in_range = slot_within c.args.width c.args.slot c.args.block.now c.requires.held in
    rw c.drop_row.ensures (rows-cleared c.args.width c.args.block.now c.args.slot c.requires.wide.0 in_range c.requires.laid).1

pub returns-clause-bits : goal.returns-clause-bits
returns-clause-bits g c =
    let in_range = slot_within c.args.width c.args.slot c.args.block.now c.requires.held in
    rw (returns-clause-slots g c) (IsPartition-set _ _ _ _ _ in_range c.requires.bits c.clear.ensures)
