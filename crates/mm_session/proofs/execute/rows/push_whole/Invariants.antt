use Rattle.std.proofs.Common.{take}
use Rattle.mm_catalog.specs.Picked.{seen_values}
use Rattle.mm_session.specs.Sinks.{PutsValues}
use Rattle.mm_session.proofs.execute.rows.push_whole.Given as goal

abbrev pub invariant-loop-column : goal.invariant-loop-column
invariant-loop-column g l = PutsValues g.S.RowSink.received l.fn.sink l.sink (take l.column (seen_values l.catalog l.relation l.fn.r))
