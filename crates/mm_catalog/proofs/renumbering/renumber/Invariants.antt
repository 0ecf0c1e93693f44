use Rattle.mm_catalog.specs.Dropped.{IsRenumberedUpTo, moved_by}
use Rattle.mm_catalog.proofs.renumbering.renumber.Given as goal

abbrev pub invariant-loop-column : goal.invariant-loop-column
invariant-loop-column l = IsRenumberedUpTo (moved_by l.renumbering) l.fn.relation l.column l.relation
