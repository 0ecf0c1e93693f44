use Rattle.std.proofs.Common.{take}
use Rattle.mm_csv.specs.BlockReading.{columns_of}
use Rattle.mm_csv.proofs.Fronts.{HasValues}
use Rattle.mm_csv.proofs.front.front_row.Given as goal

abbrev pub invariant-loop-column : goal.invariant-loop-column
invariant-loop-column l = HasValues (columns_of (take l.column-index l.others)) l.text l.left l.row.items
