use Rattle.std.proofs.Common.{◌≡◌, ℕ, ◌<◌, ◌/◌, false}
use Rattle.part_raw.specs.Layout.{is_set}
use Rattle.part_raw.proofs.bitmap.Bitmap.first_set.Given as goal

abbrev pub invariant-loop-i : goal.invariant-loop-i
invariant-loop-i l = (slot : ℕ) → slot / 64 < l.i → is_set l.self.words slot ≡ false
