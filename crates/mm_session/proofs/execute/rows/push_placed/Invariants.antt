use Rattle.std.proofs.Common.{take}
use Rattle.mm_session.specs.Sinks.{PutsValues}
use Rattle.mm_session.specs.Walked.{shown_row}
use Rattle.mm_session.proofs.execute.rows.push_placed.Given as goal

abbrev pub invariant-loop-place : goal.invariant-loop-place
invariant-loop-place g l = PutsValues g.S.RowSink.received l.fn.sink l.sink (shown_row l.catalog l.relation (take l.place-index l.places) l.fn.r)
