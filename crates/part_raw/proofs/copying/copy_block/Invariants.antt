use Rattle.part_raw.proofs.Copied.{RowsCopied}
use Rattle.part_raw.proofs.copying.copy_block.Given as goal

abbrev pub invariant-loop-slot : goal.invariant-loop-slot
invariant-loop-slot g l = RowsCopied l.width l.copied.words l.copy l.block l.slot
