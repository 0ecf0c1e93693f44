use Rattle.std.proofs.Common.{arith}
use Rattle.part_raw.proofs.Bits.{clear_slot, full_words}
use Rattle.part_raw.proofs.bitmap.Bitmap.first_clear.Goals as goal

pub returns-then-word : goal.returns-then-word
returns-then-word c = rw c.trailing_ones.ensures (clear_slot c.args.self.now.words c.loop-i.i (omega arith) (omega arith))

pub loop-i-preserved : goal.loop-i-preserved
loop-i-preserved c = full_words c.args.self.now.words c.loop-i.i c.loop-i.invariant (omega arith)
