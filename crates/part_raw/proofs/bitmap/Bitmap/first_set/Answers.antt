use Rattle.std.proofs.Common.{arith}
use Rattle.part_raw.proofs.Bits.{set_slot, clear_words}
use Rattle.part_raw.proofs.bitmap.Bitmap.first_set.Goals as goal

pub returns-then-word-ne0 : goal.returns-then-word-ne0
returns-then-word-ne0 c = set_slot c.args.self.now.words c.loop-i.i (omega arith) (omega arith) (omega arith)

pub loop-i-preserved : goal.loop-i-preserved
loop-i-preserved c = clear_words c.args.self.now.words c.loop-i.i c.loop-i.invariant (omega arith)
