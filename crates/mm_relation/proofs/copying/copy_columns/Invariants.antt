use Rattle.std.proofs.Common.{◌≡◌, take}
use Rattle.mm_relation.proofs.copying.copy_columns.Given as goal

-- so many columns are copied
abbrev pub invariant-loop-column : goal.invariant-loop-column
invariant-loop-column l = l.copies.items ≡ take l.column-index l.columns
