use Rattle.std.proofs.Common.{map, take}
use Rattle.mm_session.specs.OnlyRow.{values_shown}
use Rattle.mm_session.specs.Sinks.{PutsRows}
use Rattle.mm_session.proofs.execute.rows.push_each.Given as goal

abbrev pub invariant-loop-r : goal.invariant-loop-r
invariant-loop-r g l = PutsRows g.S.RowSink.received l.fn.sink l.sink (map (values_shown l.catalog l.relation l.shown) (take l.r-index l.rows))
