use Rattle.std.proofs.Common.{arith}
use Rattle.part_raw.proofs.Bits.{set_bit}
use Rattle.part_raw.proofs.bitmap.Bitmap.set.Goals as goal

pub returns : goal.returns
returns c = set_bit c.args.self.now.words c.args.slot (omega arith)
