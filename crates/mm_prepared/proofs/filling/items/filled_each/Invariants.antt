use Rattle.std.proofs.Common.{◌≡◌, map, take}
use Rattle.mm_prepared.proofs.filling.items.filled_each.Given as goal

abbrev pub invariant-loop-item : goal.invariant-loop-item
invariant-loop-item g l = l.filled.items ≡ map (g.S.Fill.filled l.values) (take l.item-index l.items)
