use Rattle.std.proofs.Common.{◌+◌, set, None, sym, ap, ◌∙◌}
use Rattle.part_raw.proofs.Rows.{clear_run-none, clear_run-more, held_next}
use Rattle.part_raw.proofs.row.drop_row.Goals as goal

pub loop-i-init : goal.loop-i-init
loop-i-init g c = sym (clear_run-none c.args.block.now c.args.from)

pub read-requires : goal.read-requires
read-requires g c =
    rw c.loop-i.invariant (held_next c.args.from c.args.width c.loop-i.i c.args.block.now c.requires.within c.requires.held c.loop-i-test.true)

pub loop-i-preserved : goal.loop-i-preserved
loop-i-preserved g c = c.read.ensures.places ∙ ap (λ b. set b (c.args.from + c.loop-i.i) None) c.loop-i.invariant ∙ clear_run-more c.args.block.now c.args.from c.loop-i.i
