use Rattle.std.proofs.Common.{◌≡◌, take}
use Rattle.mm_catalog.proofs.copying.copy_relations.Given as goal

-- so many relations are copied
abbrev pub invariant-loop-relation : goal.invariant-loop-relation
invariant-loop-relation l = l.copies.items ≡ take l.relation-index l.relations
