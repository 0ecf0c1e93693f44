use Rattle.std.proofs.Common.{arith, sym, ◌∙◌}
use Rattle.common_lemmas.proofs.Options.{is_some-Some}
use Rattle.part_raw.proofs.Rows.{run_of_row, row_of_run, row_wide}
use Rattle.part_raw.proofs.Stocked.{part_within, slot_in_range, found_here, laid_held}
use Rattle.part_raw.proofs.store.Partitions.get.Goals as goal

pub index-requires : goal.index-requires
index-requires g c =
    let held = rw (← c.self.view_is) at c.requires in
    omega (arith, part_within c.self.invariant.0 c.args.r c.part-part.ensures.value c.slot-slot.ensures.value held, c.self.inside.blocks.ok)

pub run-requires : goal.run-requires
run-requires g c =
    let held = rw (← c.self.view_is) at c.requires in
    let t = is_some-Some _ held in
    run_of_row c.self.inside.width c.slot-slot.result c.index.result.now t.0 (laid_held c.self.invariant.0 c.args.r c.part-part.ensures.value c.slot-slot.ensures.value held c.index.ensures)
    (sym (found_here c.self.invariant.0 c.args.r c.part-part.ensures.value c.slot-slot.ensures.value held c.index.ensures) ∙ t.1)

pub returns-clause-tuple : goal.returns-clause-tuple
returns-clause-tuple g c =
    let held = rw (← c.self.view_is) at c.requires in
    let in_range = slot_in_range c.self.invariant.0 c.args.r c.part-part.ensures.value c.slot-slot.ensures.value held in
    let laid = laid_held c.self.invariant.0 c.args.r c.part-part.ensures.value c.slot-slot.ensures.value held c.index.ensures in
    rw (← c.self.view_is)
    (found_here c.self.invariant.0 c.args.r c.part-part.ensures.value c.slot-slot.ensures.value held c.index.ensures
    ∙ row_of_run c.self.inside.width c.slot-slot.result c.index.result.now c.run.result.now laid.some in_range c.run.ensures)

pub returns-clause-width : goal.returns-clause-width
returns-clause-width g c =
    let held = rw (← c.self.view_is) at c.requires in
    let in_range = slot_in_range c.self.invariant.0 c.args.r c.part-part.ensures.value c.slot-slot.ensures.value held in
    let laid = laid_held c.self.invariant.0 c.args.r c.part-part.ensures.value c.slot-slot.ensures.value held c.index.ensures in
    rw (← c.self.view_is) (row_wide c.self.inside.width c.slot-slot.result c.index.result.now c.run.result.now laid (row_of_run c.self.inside.width c.slot-slot.result c.index.result.now c.run.result.now laid.some in_range c.run.ensures))
