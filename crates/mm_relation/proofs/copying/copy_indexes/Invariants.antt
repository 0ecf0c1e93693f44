use Rattle.std.proofs.Common.{◌≡◌, take}
use Rattle.mm_relation.proofs.copying.copy_indexes.Given as goal

-- so many indexes are copied
abbrev pub invariant-loop-index : goal.invariant-loop-index
invariant-loop-index l = l.copies.items ≡ take l.index-index l.indexes
