use Rattle.std.proofs.Common.{take}
use Rattle.mm_resolver.specs.Select.{AreJoined}
use Rattle.mm_resolver.proofs.selected.scope_of.Given as goal

abbrev pub invariant-loop-number : goal.invariant-loop-number
invariant-loop-number g l = AreJoined (g.S.Schemas.database l.schemas) l.table (take l.number l.joins) l.missed l.scope
