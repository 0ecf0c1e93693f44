use Rattle.std.proofs.Common.{arith}
use Rattle.part_raw.proofs.Bits.{clear_bit}
use Rattle.part_raw.proofs.bitmap.Bitmap.clear.Goals as goal

pub returns : goal.returns
returns c = clear_bit c.args.self.now.words c.args.slot (omega arith)
