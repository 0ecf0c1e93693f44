use Rattle.std.proofs.Common.{sym, ◌∙◌, arith}
use Rattle.common_lemmas.proofs.Options.{is_some-Some}
use Rattle.part_raw.proofs.Rows.{empty_places, row_of_run, row_wide, row_within, run_of_row}
use Rattle.part_raw.proofs.Slots.{free_of_bit}
use Rattle.part_raw.proofs.Copied.{copied_none, copied_bare, copied_row, same_rows}
use Rattle.part_raw.proofs.copying.copy_block.Goals as goal

pub loop-slot-init : goal.loop-slot-init
loop-slot-init g c = copied_none c.args.width _ _ c.args.block.now c.requires.wide.0 c.in_ok-copy.ensures c.new-copied.ensures

pub loop-slot-preserved-then-not-has : goal.loop-slot-preserved-then-not-has
loop-slot-preserved-then-not-has g c =
    let clear = sym (c.has.ensures.within c.loop-slot-test.true) ∙ c.if-not-has.true in
    copied_bare c.args.width _ c.loop-slot.copy c.args.block.now c.loop-slot.slot c.loop-slot.invariant (free_of_bit _ _ c.loop-slot.slot c.requires.bits c.loop-slot-test.true clear)

pub run-requires : goal.run-requires
run-requires g c =
    let held = is_some-Some _ (sym (c.requires.bits.bits c.loop-slot.slot c.loop-slot-test.true) ∙ sym (c.has.ensures.within c.loop-slot-test.true) ∙ c.if-not-has.false) in
    run_of_row c.args.width c.loop-slot.slot c.args.block.now held.0 c.requires.laid held.1

pub copy_row-requires-clause-within : goal.copy_row-requires-clause-within
copy_row-requires-clause-within g c =
    let held = row_of_run c.args.width c.loop-slot.slot c.args.block.now c.run.result.now c.requires.laid.some c.loop-slot-test.true c.run.ensures in
    let wide = row_wide c.args.width c.loop-slot.slot c.args.block.now c.run.result.now c.requires.laid held in
    omega (arith, wide, row_within c.args.width c.loop-slot.slot c.loop-slot.copy c.loop-slot.invariant.laid c.loop-slot-test.true)

pub copy_row-requires-clause-empty : goal.copy_row-requires-clause-empty
copy_row-requires-clause-empty g c i small =
    let held = row_of_run c.args.width c.loop-slot.slot c.args.block.now c.run.result.now c.requires.laid.some c.loop-slot-test.true c.run.ensures in
    let wide = row_wide c.args.width c.loop-slot.slot c.args.block.now c.run.result.now c.requires.laid held in
    empty_places c.args.width c.loop-slot.slot c.loop-slot.copy c.loop-slot.invariant.laid c.loop-slot-test.true (c.loop-slot.invariant.empty c.loop-slot.slot (omega arith)) i (omega (arith, small, wide))

pub loop-slot-preserved : goal.loop-slot-preserved
loop-slot-preserved g c =
    let held = row_of_run c.args.width c.loop-slot.slot c.args.block.now c.run.result.now c.requires.laid.some c.loop-slot-test.true c.run.ensures in
    let wide = row_wide c.args.width c.loop-slot.slot c.args.block.now c.run.result.now c.requires.laid held in
    rw c.in_default.ensures.ok
    (copied_row c.args.width _ c.loop-slot.copy c.args.block.now c.loop-slot.slot c.loop-slot.invariant _ c.run.result.now c.loop-slot-test.true wide held c.set.ensures)

pub returns : goal.returns
returns g c = same_rows c.args.width c.loop-slot.copy c.args.block.now c.requires.wide.0 c.loop-slot.invariant.laid c.requires.laid (λ slot below. c.loop-slot.invariant.same slot (omega (arith, below, c.loop-slot-test.false)))
