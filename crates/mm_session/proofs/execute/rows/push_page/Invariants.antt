use Rattle.std.proofs.Common.{drop, map, take}
use Rattle.mm_session.specs.Shown.{placed_values}
use Rattle.mm_session.specs.Sinks.{PutsRows}
use Rattle.mm_session.proofs.execute.rows.push_page.Given as goal

abbrev pub invariant-loop-row : goal.invariant-loop-row
invariant-loop-row g l = PutsRows g.S.RowSink.received l.fn.sink l.sink (map (placed_values l.catalog l.list.sources l.places) (take l.row (drop l.from l.list.rows)))
