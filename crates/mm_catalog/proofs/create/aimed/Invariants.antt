use Rattle.std.proofs.Common.{map}
use Rattle.std.specs.String.{string_bytes}
use Rattle.mm_catalog.specs.Created.{IsAimedUpTo}
use Rattle.mm_catalog.proofs.create.aimed.Given as goal

abbrev pub invariant-loop-column : goal.invariant-loop-column
invariant-loop-column l = IsAimedUpTo (map string_bytes l.names.keys) l.fn.schema l.column l.relation
