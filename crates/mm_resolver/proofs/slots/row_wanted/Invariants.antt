use Rattle.std.proofs.Common.{length, map, take}
use Rattle.std.specs.List.{zip}
use Rattle.plain_statements.specs.Slots.{stored_need}
use Rattle.mm_resolver.specs.Wanted.{IsWantedOf}
use Rattle.mm_resolver.proofs.slots.row_wanted.Given as goal

abbrev pub invariant-loop-column : goal.invariant-loop-column
invariant-loop-column g l =
    IsWantedOf (map (λ c. (g.V.AsSlot.as_slot c.1, stored_need (g.S.Schemas.database l.schemas) c.0.kind)) (take (length l.yielded) (zip l.columns l.row))) l.wanted
