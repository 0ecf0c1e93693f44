use Rattle.std.proofs.Common.{take}
use Rattle.mm_csv.specs.BlockReading.{columns_of}
use Rattle.mm_csv.proofs.Fronts.{HasFields, names_of}
use Rattle.mm_csv.proofs.front.behind_header.Given as goal

abbrev pub invariant-loop-column : goal.invariant-loop-column
invariant-loop-column l = HasFields (names_of (columns_of (take l.column-index l.others))) l.text l.left
